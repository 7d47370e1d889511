-- What is read is what stands there, and what stands there is read.
use Rattle.std.proofs.Common.{◌≡◌, ℕ, zero, suc, ◌+◌, ◌-◌, ◌<◌, ◌≤◌, eqb, List, [], ◌∷◌, ◌++◌, length, get_or, take, drop, Ok, Err, sym, refl, ap, ◌∙◌, subst, ⊎_elim, arith, length-append, length-drop, length-take-le, get_or-drop, drop-cons, drop-drop, take_at, drop_at, Bor}
use lib.Seq.{drop-append_seam}
use Rattle.std.proofs.lemmas.List.{take_rest, drop_all}
use Rattle.std.proofs.lemmas.Bool.Decides.{nat_tests}
use Rattle.std.proofs.lemmas.Grind.{common_steps}
use Rattle.std.proofs.lemmas.Bool.{cond_both, cases_lt, eqb-true}
use Rattle.refusal.specs.declared.reader.ReaderFault.{ReaderFault}
use Rattle.refusal.specs.declared.reader.ReaderFault.TheVariants.{NoCommand, Incomplete}
use Rattle.script.specs.Format.{Statement, link, card, crash, remark, end, two_bytes, four_bytes, said, bytes_of, Whole, Unknown, Unfinished, Bytes}
use Rattle.script.specs.declared.command.Found.{Found}
use Rattle.script.specs.declared.command.Command.{Command}
use Rattle.script.specs.declared.command.Command.TheVariants.{Remark}
use Rattle.script.specs.Reading.{Reading, found, stopped, of_width, read_command, read_first, two_at, four_at, ReadAt, ReadBack}

-- where there is a byte, the first one decides
pub by_first : (bs : List ℕ) (b : ℕ) → 1 ≤ length bs → get_or bs 0 0 ≡ b → read_first bs ≡ read_command b bs
by_first bs b some is = grind (arith, nat_tests)

wide : (k : ℕ) (bs : List ℕ) (s : Statement) → k ≤ length bs → of_width k bs s ≡ found s (drop k bs)
wide k bs s h = grind (arith, nat_tests)

pub enough : (k : ℕ) (bs : List ℕ) (s t : Statement) → k ≤ length bs → s ≡ t → of_width k bs s ≡ found t (take (length bs - k) (drop k bs))
enough k bs s t h same = wide k bs s h ∙ ap (λ u. found u (drop k bs)) same ∙ ap (found t) (sym (take_rest bs k))

pub end_read : (bs : List ℕ) → 1 ≤ length bs → get_or bs 0 0 ≡ 0x45 → read_first bs ≡ found end (take (length bs - 1) (drop 1 bs))
end_read bs some is = by_first bs 0x45 some is ∙ enough 1 bs _ _ some refl

-- k elements from place i on
abbrev run : ℕ → ℕ → List ℕ → List ℕ
run zero i bs = []
run (suc k) i bs = get_or bs i 0 ∷ run k (suc i) bs

run_drop : (k i : ℕ) (bs : List ℕ) → k + i ≤ length bs → drop i bs ≡ run k i bs ++ drop (k + i) bs
run_drop zero i bs h = grind (arith, common_steps)
run_drop (suc k) i bs h = grind (arith, common_steps, run_drop k (suc i) bs, drop-cons bs i 0)

-- what of_width found
record Width (k : ℕ) (bs : List ℕ) (s t : Statement) (rest : List ℕ) : Type 0 where
  fits : k ≤ length bs
  same : s ≡ t
  left : drop k bs ≡ rest

not_both : (r : Reading) (e : ReaderFault) (s : Statement) (rest : List ℕ) → r ≡ stopped e → r ≡ found s rest → ⊥
not_both r e s rest p q = cc

width_found : (k : ℕ) (bs : List ℕ) (s t : Statement) (rest : List ℕ) → of_width k bs s ≡ found t rest → Width k bs s t rest
width_found k bs s t rest e = record { fits = grind (arith, nat_tests); same = grind (arith, nat_tests); left = grind (arith, nat_tests) }

-- what stands where a command was found
abbrev Stands : List ℕ → Statement → List ℕ → Type 0
Stands bs s rest = (bs ≡ bytes_of s ++ rest) × Whole s

stands : (k : ℕ) (bs : List ℕ) (s t : Statement) (rest : List ℕ) → (k ≤ length bs → run k 0 bs ≡ bytes_of s) → (k ≤ length bs → Whole s) → of_width k bs s ≡ found t rest → Stands bs t rest
stands k bs s t rest spelled whole e =
    let w = width_found k bs s t rest e in
    subst (λ u. Stands bs u rest) w.same
    (subst (λ more. Stands bs s more) w.left
    (run_drop k 0 bs (omega (arith, w.fits)) ∙ (λ i. spelled w.fits i ++ drop (add_nought k i) bs), whole w.fits))
  where
    add_nought : (j : ℕ) → j + 0 ≡ j
    add_nought j = omega arith

eight_more : (bs : List ℕ) → 9 ≤ length bs → run 8 1 bs ≡ take 8 (drop 1 bs)
eight_more bs h = sym (ap (take 8) (run_drop 8 1 bs h) ∙ take_at (run 8 1 bs) (drop 9 bs) 8 refl)

two_spelled : (bs : List ℕ) → Bytes bs → (k : ℕ) (more : List ℕ) → get_or bs k 0 ∷ get_or bs (k + 1) 0 ∷ more ≡ two_bytes (two_at bs k) ++ more
two_spelled bs byte k more = let low = byte (k + 1) in grind arith

four_spelled : (bs : List ℕ) → Bytes bs → (k : ℕ) → get_or bs k 0 ∷ get_or bs (k + 1) 0 ∷ get_or bs (k + 2) 0 ∷ get_or bs (k + 3) 0 ∷ [] ≡ four_bytes (four_at bs k)
four_spelled bs byte k = let second = byte (k + 1) in let third = byte (k + 2) in let fourth = byte (k + 3) in grind arith

card_spelled : (bs : List ℕ) → Bytes bs → get_or bs 0 0 ≡ 0x50
    → run 10 0 bs ≡ 0x50 ∷ get_or bs 1 0 ∷ get_or bs 2 0 ∷ get_or bs 3 0 ∷ two_bytes (two_at bs 4) ++ four_bytes (four_at bs 6)
card_spelled bs byte is =
    ap (λ x. x ∷ run 9 1 bs) is
    ∙ ap (λ more. 0x50 ∷ get_or bs 1 0 ∷ get_or bs 2 0 ∷ get_or bs 3 0 ∷ more) (two_spelled bs byte 4 _ ∙ ap (λ more. two_bytes (two_at bs 4) ++ more) (four_spelled bs byte 6))

crash_spelled : (bs : List ℕ) → Bytes bs → get_or bs 0 0 ≡ 0x43 → run 5 0 bs ≡ 0x43 ∷ get_or bs 1 0 ∷ get_or bs 2 0 ∷ two_bytes (two_at bs 3)
crash_spelled bs byte is = ap (λ x. x ∷ run 4 1 bs) is ∙ ap (λ more. 0x43 ∷ get_or bs 1 0 ∷ get_or bs 2 0 ∷ more) (two_spelled bs byte 3 [])

pub sound : (bs : List ℕ) → Bytes bs → (t : Statement) (rest : List ℕ) → read_first bs ≡ found t rest → Stands bs t rest
sound bs byte t rest =
    let b = get_or bs 0 0 in
    let P : Reading → Type 0 = λ reading. reading ≡ found t rest → Stands bs t rest in
    cond_both (eqb (length bs) 0) _ _ P (λ _ e. absurd (not_both _ Incomplete t rest refl e)) (λ _.
    cond_both (eqb b 0x4C) _ _ P
    (λ is. stands 3 bs _ t rest (λ h. ap (λ x. x ∷ run 2 1 bs) (eqb-true b _ is)) (λ h. tt))
    (λ _. cond_both (eqb b 0x50) _ _ P
    (λ is. stands 10 bs _ t rest (λ h. card_spelled bs byte (eqb-true b _ is)) (λ h. tt))
    (λ _. cond_both (eqb b 0x43) _ _ P
    (λ is. stands 5 bs _ t rest (λ h. crash_spelled bs byte (eqb-true b _ is)) (λ h. tt))
    (λ _. cond_both (eqb b 0x52) _ _ P
    (λ is. stands 9 bs _ t rest (λ h. (λ i. eqb-true b _ is i ∷ eight_more bs h i)) (λ h. length-take-le 8 (drop 1 bs) (omega (arith, length-drop 1 bs))))
    (λ _. cond_both (eqb b 0x45) _ _ P
    (λ is. stands 1 bs _ t rest (λ h. ap (λ x. x ∷ []) (eqb-true b _ is)) (λ h. tt))
    (λ _ e. absurd (not_both _ NoCommand t rest refl e)))))))

-- every command's bytes are read back as that command
pub read_back : (s : Statement) → Whole s → (rest : List ℕ) → read_first (bytes_of s ++ rest) ≡ found s rest
read_back (link n f) w rest = grind (arith, nat_tests)
read_back (card e) w rest = grind (arith, nat_tests)
read_back (crash e) w rest = grind (arith, nat_tests)
read_back (remark text) w rest =
    let bs = bytes_of (remark text) ++ rest in
    by_first bs 0x52 (omega arith) refl ∙ wide 9 bs _ (omega (arith, length-append text rest))
    ∙ λ i. found (remark (take_at text rest 8 w i)) (drop_at text rest 8 w i)
read_back end w rest = grind (arith, nat_tests)

-- why nothing is read, by how wide the command of the first byte is
pub unknown_since : (bs : List ℕ) → read_first bs ≡ stopped NoCommand → Unknown bs
unknown_since [] e = cc
unknown_since (b ∷ more) e = grind (arith, nat_tests)

pub since_unknown : (bs : List ℕ) → Unknown bs → read_first bs ≡ stopped NoCommand
since_unknown [] h = absurd h
since_unknown (b ∷ more) h = grind (arith, nat_tests)

pub unfinished_since : (bs : List ℕ) → read_first bs ≡ stopped Incomplete → Unfinished bs
unfinished_since [] e = tt
unfinished_since (b ∷ more) e = grind (arith, nat_tests)

pub since_unfinished : (bs : List ℕ) → Unfinished bs → read_first bs ≡ stopped Incomplete
since_unfinished [] h = refl
since_unfinished (b ∷ more) h = grind (arith, nat_tests)

pub bytes_from : (script : List ℕ) → Bytes script → (place : ℕ) → Bytes (drop place script)
bytes_from script byte place i = subst (λ b. b < 256) (sym (get_or-drop place script i 0)) (byte (place + i))

-- past the end nothing is read
pub none_past : (script : List ℕ) (place : ℕ) → length script ≤ place → read_first (drop place script) ≡ stopped Incomplete
none_past script place h = ap read_first (drop_all place script h)

-- where the next command begins
pub record Next (script : List ℕ) (place : ℕ) (s : Statement) (rest : List ℕ) : Type 0 where
  pub inside : place + length (bytes_of s) + length rest ≡ length script
  pub rest_is : rest ≡ drop (place + length (bytes_of s)) script

pub next_found : (script : List ℕ) → Bytes script → (place : ℕ) → place ≤ length script → (s : Statement) (rest : List ℕ) → read_first (drop place script) ≡ found s rest
    → Next script place s rest
next_found script byte place le s rest e =
    let here = (sound (drop place script) (bytes_from script byte place) s rest e).0 in
    record {
      inside = omega (arith, ap length here, length-append (bytes_of s) rest, length-drop place script);
      rest_is = sym (drop-append_seam (bytes_of s) rest) ∙ ap (drop (length (bytes_of s))) (sym here) ∙ drop-drop (length (bytes_of s)) place script;
    }

-- a whole remark has nine bytes, all inside the script
pub record RemarkAt (script : List ℕ) (place next : ℕ) (text : List ℕ) : Type 0 where
  pub read : read_first (drop place script) ≡ found (remark text) (drop next script)
  pub nine_on : next ≡ place + 9
  pub inside : place < length script

pub remark_at : (script : List ℕ) → Bytes script → (place : ℕ) (f : Found) (r : Bor (List ℕ)) → ReadAt script place (Ok f) → f.command ≡ Remark r → RemarkAt script place f.next r.now
remark_at script byte place f r at is =
    let e = at.read ∙ ap (λ k. found (said k) (drop f.next script)) is in
    let here = sound (drop place script) (bytes_from script byte place) (remark r.now) _ e in
    record {
      read = e;
      nine_on = omega (arith, at.next_is, ap (λ k. length (bytes_of (said k))) is, here.1);
      inside = ⊎_elim (λ lt. lt) (λ ge. absurd (not_both _ Incomplete (remark r.now) _ (none_past script place ge) e)) (cases_lt place (length script));
    }

pub said_no_remark : (c : Command) (text : List ℕ) → ((r : Bor (List ℕ)) → c ≡ Remark r → ⊥) → said c ≡ remark text → ⊥
said_no_remark c text no_r e = grind arith

-- where the reader refuses, the first command of the bytes is refused
pub refused_reading : (script : List ℕ) (place : ℕ) (e : ReaderFault) → ReadAt script place (Err e) → read_first (drop place script) ≡ stopped e
refused_reading script place e at = grind arith

read_anywhere : (c : Statement) → Whole c → (before after : List ℕ) → read_first (drop (length before) (before ++ (bytes_of c ++ after))) ≡ found c after
read_anywhere c w before after = ap read_first (drop-append_seam before (bytes_of c ++ after)) ∙ read_back c w after

pub read_back_anywhere : ReadBack
read_back_anywhere c w before after (Ok r) at = cc (at.read, read_anywhere c w before after)
read_back_anywhere c w before after (Err e) at = not_both _ e c after (refused_reading (before ++ (bytes_of c ++ after)) (length before) e at) (read_anywhere c w before after)

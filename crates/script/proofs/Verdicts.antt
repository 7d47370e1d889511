-- The verdict is what is declared, and nothing else is.
use Rattle.std.proofs.Common.{◌≡◌, ℕ, zero, suc, ◌+◌, ◌<◌, ◌≤◌, List, [], ◌∷◌, ◌++◌, length, Some, None, Option, sym, refl, ap, ◌∙◌, subst, ⊎_elim, append_assoc, append-nil, arith, length-append, get_or-append-add}
use Rattle.refusal.specs.declared.command.CommandFault.{CommandFault}
use Rattle.refusal.specs.declared.command.CommandFault.TheVariants.{Reader, NotAllowedHere, Content}
use Rattle.refusal.specs.declared.load.LoadFault.{LoadFault}
use Rattle.refusal.specs.declared.load.Stopped.{Stopped}
use Rattle.refusal.specs.declared.reader.ReaderFault.TheVariants.{NoCommand, Incomplete}
use Rattle.script.specs.Admitted.{Says, Admitted, Unended, Breaks, no_command, incomplete, misplaced, breaks_content, behind_end, StoppedAt, Refused}
use Rattle.script.specs.Format.{Statement, bytes_of, Whole, script_of, Bytes}
use Rattle.script.specs.Listing.{Listing}
use Rattle.script.specs.Reading.{Reading, found, stopped, read_first}
use Rattle.script.specs.Rules.{Standing, nothing, under_way, ended, rules, first_broken, advance}
use Rattle.script.specs.Verdict.{Verdict, accepted, refused, refused_at, Judged, stops, goes, judge_command, judge_reading, judge, after_end, walk, verdict, Declared, VerdictIsDeclared, OneVerdict, JudgedAsDeclared}
use Rattle.script.proofs.Content.{Passes, uncarded_is_lowest, tests_mean}
use Rattle.script.proofs.Entries.{last_view, broken_first, first_is_broken}
use Rattle.script.proofs.Order.{says_more, says_less}
use Rattle.script.proofs.Places.{by_place}
use Rattle.script.proofs.Reading.{sound, read_back, unknown_since, since_unknown, unfinished_since, since_unfinished}
use Rattle.std.proofs.lemmas.Grind.{common_steps}
use Rattle.std.proofs.lemmas.Bool.{cond-true, cond-false, cases_lt, le-leb, lt-leb}

-- what a judgement rests on
pub record Goes (s : Standing) (bs : List ℕ) (t : Standing) (c : Statement) (rest : List ℕ) : Type 0 where
  pub bytes : bs ≡ bytes_of c ++ rest
  pub whole : Whole c
  pub passes : Passes s c
  pub advances : advance s c ≡ t

-- a refusal by the rules, for the place or for the content
refused_rule : (s : Standing) (bs : List ℕ) (c : Statement) (rest : List ℕ) → Unended s → Whole c → bs ≡ bytes_of c ++ rest → (fault : CommandFault)
    → first_broken (rules s c) ≡ Some fault → Breaks s bs fault
refused_rule s bs c rest u w is (Reader e) h = absurd ((by_place s c u).no_reader e h)
refused_rule s bs c rest u w is NotAllowedHere h = misplaced u c rest w is ((by_place s c u).is_misplaced h)
refused_rule s bs c rest u w is (Content e) h = breaks_content e u c rest w is (broken_first (rules s c) (Content e) h)

module _ (s : Standing) (bs : List ℕ) (byte : Bytes bs) where
  command_goes : (c : Statement) (rest : List ℕ) (t : Standing) (d : Statement) (more : List ℕ) (o : Option CommandFault) → read_first bs ≡ found c rest
      → first_broken (rules s c) ≡ o → judge_command s c rest o ≡ goes t d more → Goes s bs t d more
  command_goes c rest t d more (Some fault) r o e = cc
  command_goes c rest t d more None r o e =
      let same : c ≡ d = cc in
      let left : rest ≡ more = cc in
      let next : advance s c ≡ t = cc in
      let here = sound bs byte c rest r in
      record {
        bytes = here.0 ∙ λ i. bytes_of (same i) ++ left i;
        whole = subst Whole same here.1;
        passes = subst (Passes s) same o;
        advances = ap (advance s) (sym same) ∙ next;
      }

  command_stops : (c : Statement) (rest : List ℕ) (fault : CommandFault) (o : Option CommandFault) → Unended s → read_first bs ≡ found c rest
      → first_broken (rules s c) ≡ o → judge_command s c rest o ≡ stops fault → Breaks s bs fault
  command_stops c rest fault None u r o e = cc
  command_stops c rest fault (Some other) u r o e =
      let same : Some other ≡ Some fault = cc in
      let here = sound bs byte c rest r in
      refused_rule s bs c rest u here.1 here.0 fault (o ∙ same)

  reading_goes : (t : Standing) (d : Statement) (more : List ℕ) (r : Reading) → read_first bs ≡ r → judge_reading s r ≡ goes t d more → Goes s bs t d more
  reading_goes t d more (stopped e) r is = cc
  reading_goes t d more (found c rest) r is = command_goes c rest t d more (first_broken (rules s c)) r refl is

  reading_stops : (fault : CommandFault) (r : Reading) → Unended s → read_first bs ≡ r → judge_reading s r ≡ stops fault → Breaks s bs fault
  reading_stops fault (stopped NoCommand) u r is = let same : Reader NoCommand ≡ fault = cc in subst (Breaks s bs) same (no_command u (unknown_since bs r))
  reading_stops fault (stopped Incomplete) u r is = let same : Reader Incomplete ≡ fault = cc in subst (Breaks s bs) same (incomplete u (unfinished_since bs r))
  reading_stops fault (found c rest) u r is = command_stops c rest fault (first_broken (rules s c)) u r refl is

  pub judge_goes : (t : Standing) (c : Statement) (rest : List ℕ) → judge s bs ≡ goes t c rest → Goes s bs t c rest
  unfolding judge
  judge_goes t c rest = reading_goes t c rest (read_first bs) refl

  pub judge_stops : (fault : CommandFault) → Unended s → judge s bs ≡ stops fault → Breaks s bs fault
  unfolding judge
  judge_stops fault u = reading_stops fault (read_first bs) u refl

pub passes_judge : (s : Standing) (c : Statement) (rest : List ℕ) → Whole c → Passes s c → judge s (bytes_of c ++ rest) ≡ goes (advance s c) c rest
unfolding judge
passes_judge s c rest w p = ap (judge_reading s) (read_back c w rest) ∙ ap (judge_command s c rest) p

breaks_judge : (s : Standing) (bs : List ℕ) → Unended s → {fault : CommandFault} → Breaks s bs fault → judge s bs ≡ stops fault
unfolding judge
breaks_judge s bs u (no_command v h) = ap (judge_reading s) (since_unknown bs h)
breaks_judge s bs u (incomplete v h) = ap (judge_reading s) (since_unfinished bs h)
breaks_judge s bs u (misplaced v c more w is h) =
    ap (λ x. judge_reading s (read_first x)) is ∙ ap (judge_reading s) (read_back c w more) ∙ ap (judge_command s c more) ((by_place s c u).is_refused h)
breaks_judge s bs u (breaks_content fault v c more w is h) =
    ap (λ x. judge_reading s (read_first x)) is ∙ ap (judge_reading s) (read_back c w more) ∙ ap (judge_command s c more) (first_is_broken (rules s c) (Content fault) h)
breaks_judge s bs u (behind_end l is b more at) = absurd (subst Unended is u)

-- one command of a walk
pub walk_stops : (k : ℕ) (s : Standing) (place count : ℕ) (bs : List ℕ) (fault : CommandFault) → Unended s → judge s bs ≡ stops fault
    → walk (suc k) s place count bs ≡ refused_at place count fault
unfolding walk
walk_stops k nothing place count bs fault u e = rw (e, walk)
walk_stops k (under_way l) place count bs fault u e = rw (e, walk)
walk_stops k (ended l) place count bs fault u e = absurd u

pub walk_goes : (k : ℕ) (s : Standing) (place count : ℕ) (bs : List ℕ) (t : Standing) (c : Statement) (rest : List ℕ) → Unended s → judge s bs ≡ goes t c rest
    → walk (suc k) s place count bs ≡ walk k t (place + length (bytes_of c)) (suc count) rest
unfolding walk
walk_goes k nothing place count bs t c rest u e = rw (e, walk)
walk_goes k (under_way l) place count bs t c rest u e = rw (e, walk)
walk_goes k (ended l) place count bs t c rest u e = absurd u

pub walk_ends : (k : ℕ) (l : Listing) (place count : ℕ) (bs : List ℕ) → walk (suc k) (ended l) place count bs ≡ after_end l place count bs
unfolding walk
walk_ends k l place count bs = refl

-- the bytes of one command more
script_of_push : (before : List Statement) (c : Statement) → script_of (before ++ c ∷ []) ≡ script_of before ++ bytes_of c
script_of_push [] c = grind (arith, common_steps)
script_of_push (b ∷ before) c = grind (arith, common_steps, script_of_push before c)

length_more : (before : List Statement) (c : Statement) → length (script_of (before ++ c ∷ [])) ≡ length (script_of before) + length (bytes_of c)
length_more before c = ap length (script_of_push before c) ∙ length-append (script_of before) (bytes_of c)

pub not_empty : (c : Statement) → 1 ≤ length (bytes_of c)
not_empty c = grind arith

bytes_behind : (before rest : List ℕ) → Bytes (before ++ rest) → Bytes rest
bytes_behind before rest byte i = subst (λ b. b < 256) (get_or-append-add before rest i 0) (byte (length before + i))

-- where a walk has come to in a script
pub record Reached (script : List ℕ) (s : Standing) (place count : ℕ) (rest : List ℕ) : Type 0 where
  pub before : List Statement
  pub bytes : script ≡ script_of before ++ rest
  pub says : Says before s
  pub placed : place ≡ length (script_of before)
  pub counted : count ≡ length before

pub reached_first : (script : List ℕ) → Reached script nothing 0 0 script
reached_first script = record { before = []; bytes = refl; says = record { whole = tt; in_order = refl; ends_well = tt; within_content = tt }; placed = refl; counted = refl }

module _ (script : List ℕ) (byte : Bytes script) where
  pub rest_bytes : (s : Standing) (place count : ℕ) (rest : List ℕ) → Reached script s place count rest → Bytes rest
  rest_bytes s place count rest h = bytes_behind (script_of h.before) rest (subst Bytes h.bytes byte)

  pub reached_more : (s : Standing) (place count : ℕ) (rest : List ℕ) → Unended s → Reached script s place count rest
      → (t : Standing) (c : Statement) (more : List ℕ) → Goes s rest t c more → Reached script t (place + length (bytes_of c)) (suc count) more
  reached_more s place count rest u h t c more g = record {
    before = h.before ++ c ∷ [];
    bytes =
        h.bytes ∙ ap (λ xs. script_of h.before ++ xs) g.bytes
        ∙ sym (append_assoc (script_of h.before) (bytes_of c) more)
        ∙ ap (λ xs. xs ++ more) (sym (script_of_push h.before c));
    says = subst (Says (h.before ++ c ∷ [])) g.advances (says_more h.before s c h.says u g.whole g.passes);
    placed = omega (arith, h.placed, length_more h.before c);
    counted = omega (arith, h.counted, length-append h.before (c ∷ []));
  }

  module _ (short : length script ≤ 4096) where
    stopped_there : (s : Standing) (place count : ℕ) (rest : List ℕ) (fault : CommandFault) → Reached script s place count rest → Breaks s rest fault
        → Declared script (refused_at place count fault)
    stopped_there s place count rest fault h b = record {
      before = h.before;
      standing = s;
      rest = rest;
      bytes = h.bytes;
      says = h.says;
      breaks = b;
      placed = h.placed;
      counted = h.counted;
      short = short;
    }

    ended_there : (l : Listing) (place count : ℕ) (rest : List ℕ) → Reached script (ended l) place count rest → Declared script (after_end l place count rest)
    ended_there l place count [] h = record {
      commands = h.before;
      bytes = h.bytes ∙ append-nil (script_of h.before);
      says = h.says;
      counted = h.counted;
      short = short;
    }
    ended_there l place count (b ∷ more) h = stopped_there (ended l) place count (b ∷ more) NotAllowedHere h (behind_end l refl b more refl)

    turn : (k : ℕ) (s : Standing) (place count : ℕ) (rest : List ℕ) → length rest < suc k → Unended s → Reached script s place count rest → (j : Judged) → judge s rest ≡ j
        → ((t : Standing) (place count : ℕ) (rest : List ℕ) → length rest < k → Reached script t place count rest → Declared script (walk k t place count rest))
        → Declared script (walk (suc k) s place count rest)
    turn k s place count rest few u h (stops fault) is onward =
        subst (Declared script) (sym (walk_stops k s place count rest fault u is))
        (stopped_there s place count rest fault h (judge_stops s rest (rest_bytes s place count rest h) fault u is))
    turn k s place count rest few u h (goes t c more) is onward =
        let g = judge_goes s rest (rest_bytes s place count rest h) t c more is in
        subst (Declared script) (sym (walk_goes k s place count rest t c more u is))
        (onward t (place + length (bytes_of c)) (suc count) more (omega (arith, ap length g.bytes, length-append (bytes_of c) more, not_empty c))
        (reached_more s place count rest u h t c more g))

    walk_declared : (k : ℕ) (s : Standing) (place count : ℕ) (rest : List ℕ) → length rest < k → Reached script s place count rest → Declared script (walk k s place count rest)
    walk_declared zero s place count rest few h = absurd (omega arith)
    walk_declared (suc k) (ended l) place count rest few h = subst (Declared script) (sym (walk_ends k l place count rest)) (ended_there l place count rest h)
    walk_declared (suc k) nothing place count rest few h = turn k nothing place count rest few tt h (judge nothing rest) refl (walk_declared k)
    walk_declared (suc k) (under_way l) place count rest few h = turn k (under_way l) place count rest few tt h (judge (under_way l) rest) refl (walk_declared k)

-- a walk over commands that say something comes to stand behind them
record Over (k : ℕ) (before : List Statement) (s : Standing) (rest : List ℕ) : Type 0 where
  left : ℕ
  few : length rest < left
  arrives : walk k nothing 0 0 (script_of before ++ rest) ≡ walk left s (length (script_of before)) (length before) rest

over_none : (s : Standing) → Says [] s → (rest : List ℕ) (k : ℕ) → length rest < k → Over k [] s rest
over_none nothing h rest k few = record { left = k; few = few; arrives = refl }
over_none (under_way l) h rest k few = cc
over_none (ended l) h rest k few = cc

over_step : (k : ℕ) (front : List Statement) (c : Statement) (t s : Standing) (rest : List ℕ) → Whole c → Unended t → Passes t c → advance t c ≡ s
    → Over k front t (bytes_of c ++ rest) → Over k (front ++ c ∷ []) s rest
over_step k front c t s rest w u p is o = go o.left o.few o.arrives
  where
    go : (left : ℕ) → length (bytes_of c ++ rest) < left
        → walk k nothing 0 0 (script_of front ++ (bytes_of c ++ rest)) ≡ walk left t (length (script_of front)) (length front) (bytes_of c ++ rest)
        → Over k (front ++ c ∷ []) s rest
    go zero few arrives = absurd (omega arith)
    go (suc left) few arrives =
        let place : length (script_of front) + length (bytes_of c) ≡ length (script_of (front ++ c ∷ [])) = sym (length_more front c) in
        let count : suc (length front) ≡ length (front ++ c ∷ []) = omega (arith, length-append front (c ∷ [])) in
        record {
          left = left;
          few = omega (arith, length-append (bytes_of c) rest, not_empty c);
          arrives =
              ap (walk k nothing 0 0) (ap (λ xs. xs ++ rest) (script_of_push front c) ∙ append_assoc (script_of front) (bytes_of c) rest)
              ∙ arrives
              ∙ walk_goes left t (length (script_of front)) (length front) (bytes_of c ++ rest) (advance t c) c rest u (passes_judge t c rest w p)
              ∙ λ i. walk left (is i) (place i) (count i) rest;
        }

last_step : (n : ℕ) (front : List Statement) (c : Statement) → length front ≡ n → (s : Standing) → Says (front ++ c ∷ []) s → (rest : List ℕ) (k : ℕ)
    → length (script_of (front ++ c ∷ []) ++ rest) < k
    → ((before : List Statement) → length before ≡ n → (t : Standing) → Says before t → (rest : List ℕ) (k : ℕ) → length (script_of before ++ rest) < k → Over k before t rest)
    → Over k (front ++ c ∷ []) s rest
last_step n front c size s h rest k few shorter =
    let (w, e) = says_less front c s h in
    let same = ap (λ xs. xs ++ rest) (script_of_push front c) ∙ append_assoc (script_of front) (bytes_of c) rest in
    over_step k front c e.standing s rest w e.unended e.passes e.advances
    (shorter front size e.standing e.says (bytes_of c ++ rest) k (subst (λ xs. length xs < k) same few))

walk_over : (n : ℕ) (before : List Statement) → length before ≡ n → (s : Standing) → Says before s → (rest : List ℕ) (k : ℕ) → length (script_of before ++ rest) < k
    → Over k before s rest
walk_over zero [] size s h rest k few = over_none s h rest k few
walk_over zero (b ∷ before) size s h rest k few = absurd (omega arith)
walk_over (suc n) before size s h rest k few =
    ⊎_elim
    (λ none. absurd (omega (arith, ap length none)))
    (λ l. subst (λ xs. Over k xs s rest) (sym l.is) (last_step n l.front l.last (omega (arith, ap length l.is, length-append l.front (l.last ∷ []))) s
    (subst (λ xs. Says xs s) l.is h) rest k (subst (λ xs. length (script_of xs ++ rest) < k) l.is few) (walk_over n)))
    (last_view before)

behind : (l : Listing) (rest : List ℕ) (place count : ℕ) → {fault : CommandFault} → Breaks (ended l) rest fault → after_end l place count rest ≡ refused_at place count fault
behind l rest place count (no_command u h) = absurd u
behind l rest place count (incomplete u h) = absurd u
behind l rest place count (misplaced u c more w is h) = absurd u
behind l rest place count (breaks_content fault u c more w is h) = absurd u
behind l rest place count (behind_end m is b more at) = ap (after_end l place count) at

module _ (script : List ℕ) where
  pub judged_whole : length script ≤ 4096 → verdict script ≡ walk (suc (length script)) nothing 0 0 script
  unfolding verdict
  judged_whole short = cond-true _ _ _ (le-leb (length script) 4096 short)

  pub too_long : 4096 < length script → verdict script ≡ refused LoadFault.TooLong
  unfolding verdict
  too_long long = cond-false _ _ _ (lt-leb (length script) 4096 long)

  -- where the walk stands behind whole commands of the script
  comes_to : length script ≤ 4096 → (before : List Statement) (s : Standing) (rest : List ℕ) → script ≡ script_of before ++ rest → Says before s
      → (left : ℕ) × (verdict script ≡ walk (suc left) s (length (script_of before)) (length before) rest)
  comes_to short before s rest is h = go o.left o.few o.arrives
    where
      o : Over (suc (length script)) before s rest
      o = walk_over (length before) before refl s h rest (suc (length script)) (omega (arith, ap length is))

      go : (left : ℕ) → length rest < left → walk (suc (length script)) nothing 0 0 (script_of before ++ rest) ≡ walk left s (length (script_of before)) (length before) rest
          → (left : ℕ) × (verdict script ≡ walk (suc left) s (length (script_of before)) (length before) rest)
      go zero few e = absurd (omega arith)
      go (suc left) few e = (left, judged_whole short ∙ ap (walk (suc (length script)) nothing 0 0) is ∙ e)

  admitted_accepted : (l : Listing) (count : ℕ) → Admitted script l count → verdict script ≡ accepted l count
  admitted_accepted l count a =
      let (left, e) = comes_to a.short a.commands (ended l) [] (a.bytes ∙ sym (append-nil (script_of a.commands))) a.says in
      e ∙ walk_ends left l _ _ [] ∙ ap (accepted l) (sym a.counted)

  breaks_refused : (s : Standing) (rest : List ℕ) (fault : CommandFault) (left place count : ℕ) → Breaks s rest fault → walk (suc left) s place count rest ≡ refused_at place count fault
  breaks_refused nothing rest fault left place count b = walk_stops left nothing place count rest fault tt (breaks_judge nothing rest tt b)
  breaks_refused (under_way l) rest fault left place count b = walk_stops left (under_way l) place count rest fault tt (breaks_judge (under_way l) rest tt b)
  breaks_refused (ended l) rest fault left place count b = walk_ends left l place count rest ∙ behind l rest place count b

  stopped_refused : (at : Stopped) → StoppedAt script at → verdict script ≡ refused (LoadFault.Command at)
  stopped_refused at a =
      let (left, e) = comes_to a.short a.before a.standing a.rest a.bytes a.says in
      e ∙ breaks_refused a.standing a.rest at.fault left _ _ a.breaks
      ∙ λ i. refused_at (sym a.placed i) (sym a.counted i) at.fault

  declared_refused : (fault : LoadFault) → Refused script fault → verdict script ≡ refused fault
  declared_refused LoadFault.TooLong h = too_long h
  declared_refused (LoadFault.Command at) h = stopped_refused at h
  declared_refused (LoadFault.List lower) h = absurd h

  declared_verdict : (v : Verdict) → Declared script v → verdict script ≡ v
  declared_verdict (accepted l count) h = admitted_accepted l count h
  declared_verdict (refused fault) h = declared_refused fault h

  pub verdict_declared : Bytes script → Declared script (verdict script)
  verdict_declared byte =
      ⊎_elim
      (λ long. subst (Declared script) (sym (too_long long)) long)
      (λ short. subst (Declared script) (sym (judged_whole short)) (walk_declared script byte short (suc (length script)) nothing 0 0 script (omega arith) (reached_first script)))
      (cases_lt 4096 (length script))

pub verdict_is_declared : VerdictIsDeclared
verdict_is_declared script byte v = ((λ e. subst (Declared script) e (verdict_declared script byte)), declared_verdict script v)

one_verdict : OneVerdict
one_verdict script byte = (verdict script, verdict_declared script byte, λ w h. sym (declared_verdict script w h))

pub judged_as_declared : JudgedAsDeclared
judged_as_declared = record { as_declared = verdict_is_declared; exactly_one = one_verdict; lowest_named = uncarded_is_lowest; tests_mean = tests_mean }

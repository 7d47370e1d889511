-- The line that reports a refused load to people, and the text that a line holds.
use Rattle.std.specs.Prelude.{ℕ, List, [], ◌++◌, take, Some, None, codes, decimal, Option}
use Rattle.refusal.specs.Table.{load_number, load_layer, load_place, load_count, load_names}
use Rattle.refusal.specs.declared.layer.Layer.{Layer}
use Rattle.refusal.specs.declared.layer.Layer.TheVariants.{Entry, Reader, Order, Content, Lists, Session}
use Rattle.refusal.specs.declared.line.Line.{Line}
use Rattle.refusal.specs.declared.load.LoadFault.{LoadFault}

-- The text that a line holds.
abbrev pub text_of : Line → List ℕ
text_of l = take l.length l.bytes

-- A layer's name in small letters.
abbrev pub layer_name_lem : Layer → List ℕ
layer_name_lem Entry = codes "entry"
layer_name_lem Reader = codes "reader"
layer_name_lem Order = codes "order"
layer_name_lem Content = codes "content"
layer_name_lem Lists = codes "lists"
layer_name_lem Session = codes "session"

-- A label and a number's text, or nothing where there is no number.
abbrev pub labelled : {A : Type 0} → (A → List ℕ) → List ℕ → Option A → List ℕ
labelled text label None = []
labelled text label (Some n) = label ++ text n

-- The whole line, its end byte too. A fault has both of place and count, or neither.
abbrev pub refused_line : LoadFault → List ℕ
refused_line fault =
    codes "refused " ++ decimal (load_number fault) ++ codes " " ++ layer_name_lem (load_layer fault)
    ++ labelled decimal (codes " at ") (load_place fault) ++ labelled decimal (codes " after ") (load_count fault)
    ++ labelled decimal (codes " console ") (load_names fault).console ++ labelled decimal (codes " round ") (load_names fault).round
    ++ codes "\n"

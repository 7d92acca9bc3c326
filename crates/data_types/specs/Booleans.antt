-- The texts of truth values: XML Schema part 2 §3.2.2.1, with nothing cut off.
use Rattle.std.specs.Prelude.{◌≡◌, ◌⊎◌, ℕ, Bool, true, false, List, codes}

-- the collapsed text is one of this truth value
abbrev pub IsBooleanText : Bool → List ℕ → Type 0
IsBooleanText true text = (text ≡ codes "true") ⊎ (text ≡ codes "1")
IsBooleanText false text = (text ≡ codes "false") ⊎ (text ≡ codes "0")

-- the one canonical text of a truth value: §3.2.2.2
abbrev pub boolean_text : Bool → List ℕ
boolean_text true = codes "true"
boolean_text false = codes "false"

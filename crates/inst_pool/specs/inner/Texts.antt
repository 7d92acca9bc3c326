-- Short texts, each of which begins where the one before ends.
use Rattle.std.specs.Prelude.{◌≡◌, ℕ, ◌-◌, ◌⊎◌, List, [], ◌∷◌, ◌++◌}
use Rattle.inst_pool.specs.declared.content.Content.{Content}
use Rattle.inst_pool.specs.declared.content.Content.TheVariants.{Bytes}

-- the texts that end there, the first of which begins at `start`
abbrev pub texts_from : ℕ → List ℕ → List Content
texts_from start [] = []
texts_from start (end ∷ ends) = Bytes start end ∷ texts_from end ends

-- the texts between bounds that are neighbours
abbrev pub texts_between : List ℕ → List Content
texts_between [] = []
texts_between (first ∷ ends) = texts_from first ends

-- for how many texts there is room in a block for so many bounds: none before the first bound is there
abbrev pub text_room : List ℕ → ℕ → ℕ
text_room [] capacity = 0
text_room (first ∷ ends) capacity = capacity - 1

-- the texts are as before, or there is one more
abbrev pub HasOneMore : List Content → List Content → Type 0
HasOneMore old new = (new ≡ old) ⊎ ((text : Content) × (new ≡ old ++ text ∷ []))

-- The codes that words are made of. The contracts of private functions alone cite it.
use Rattle.std.specs.Prelude.{ℕ, Bool, ◌&&◌, ◌==◌, not}

-- the code is no white space: XML 1.0 §2.3, S
abbrev pub is_word_code : ℕ → Bool
is_word_code code = not (code == 32) && not (code == 9) && not (code == 10) && not (code == 13)

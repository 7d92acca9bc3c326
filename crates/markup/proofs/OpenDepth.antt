-- How many elements are open behind the events that a reader has told.
use Rattle.std.proofs.Common.{◌≡◌, ℕ, suc, List, [], ◌∷◌, length, reverse, refl, sym, ◌∙◌, ap}
use Rattle.lexical_core.specs.Tree.{Expanded}
use Rattle.markup.specs.Token.{Token, LineEnd, Cr}
use Rattle.markup.specs.Events.{Placed, open_tags, events}
use Rattle.markup.specs.PlainTags.{open_behind}
use Rattle.markup.specs.Reading.{HasTakenUnder}
use Rattle.markup.specs.inner.Tokenizers.{open_at}
use Rattle.markup.specs.inner.Inputs.{with_pending}
use Rattle.markup.specs.declared.tag.Opening.{Opening}
use Rattle.markup.specs.declared.tokenizer.Finish.{Finish}
use Rattle.markup.specs.declared.tokenizer.Finish.TheVariants.{Nothing, Return, Open}
use Rattle.markup.specs.declared.reader.Reader.{Reader}
use Rattle.markup.proofs.OpenTags.{AreExpanded, open_expanded}
use Rattle.markup.proofs.SettleLemmas.{finishes_by}
use Rattle.markup.proofs.InputLemmas.{reverse_snoc}
use Rattle.markup.proofs.InputEnds.{clean_pending}

same_length : (tags : List Opening) (es : List Expanded) → AreExpanded tags es → length tags ≡ length es
same_length [] [] a = refl
same_length [] (e ∷ es) a = absurd a
same_length (tag ∷ tags) [] a = absurd a
same_length (tag ∷ tags) (e ∷ es) a = ap suc (same_length tags es a.1)

-- a CR that is open is no tag
tags_pending : (result : Finish) (ts : List Token) → open_tags (reverse (with_pending result ts)) ≡ open_tags (reverse ts)
tags_pending Nothing ts = refl
tags_pending Return ts = ap open_tags (reverse_snoc ts (LineEnd Cr))
tags_pending Open ts = refl

pub depth_told : {limit : ℕ} (reader : Reader) (bytes : List ℕ) (told : List Placed) (h : HasTakenUnder limit reader bytes told) → length (open_tags (reverse h.0)) ≡ length (open_behind [] told)
depth_told reader bytes told h =
    let f : Finish = open_at reader.tokenizer.scan reader.tokenizer in
    let ts : List Token = with_pending f h.0 in
    ap length (sym (tags_pending f h.0))
    ∙ (same_length (open_tags (reverse ts)) (open_behind [] (events [] 0 ts)) (open_expanded ts (clean_pending f h.0 h.1.clean))
    ∙ ap (λ v. length (open_behind [] v)) (sym (h.1.told_are f (finishes_by reader.tokenizer f refl))))

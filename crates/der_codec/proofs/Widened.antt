-- Where only the room grows, what was given stays so.
use Rattle.std.proofs.Common.{◌≡◌, ℕ, List, Option, Some, None, length, refl, sym, ap, ◌∙◌, subst, arith}
use Rattle.inst_pool.specs.Pieces.{Region}
use Rattle.message_model.specs.Tables.{Tables, types_of}
use Rattle.der_model.specs.DerMessage.{DerMessage, der_message}
use Rattle.der_model.specs.ShownPieces.{PartsShow}
use Rattle.der_model.specs.States.{Start}
use Rattle.der_codec.specs.Checked.{CheckTypes}
use Rattle.der_codec.specs.Checking.{HasFedDer, IsDerCheckerFor, IsFreed, IsReading, KeepsContents, KeepsOctets}
use Rattle.der_codec.specs.Decoding.{Reads, IsWaiting, end_of_levels, header_come}
use Rattle.der_codec.specs.KeptPieces.{Shows}
use Rattle.der_codec.specs.Levels.{inwards}
use Rattle.der_codec.specs.OpenLeaves.{held_by_envelope}
use Rattle.der_codec.specs.Reserved.{HasSamePieces, IsWidened}
use Rattle.der_codec.specs.declared.checker.DerChecker.{DerChecker}
use Rattle.der_codec.specs.declared.decoder.Due.{Due}
use Rattle.der_codec.specs.declared.decoder.Due.TheVariants as due
use Rattle.der_codec.specs.declared.held.Held.{Held}
use Rattle.der_codec.specs.declared.open_leaf.OpenLeaf.{OpenLeaf}
use Rattle.der_codec.specs.declared.level.Level.{Level}

-- what holds of the open levels, of what is due and of both places
as_before : (P : List Level → Due → ℕ → ℕ → Type 0) (old new : DerChecker) → IsWidened old new → P old.decoder.levels.items old.decoder.due old.decoder.start old.decoder.place → P new.decoder.levels.items new.decoder.due new.decoder.start new.decoder.place
as_before P old new w h =
    let d = old.decoder in
    let e = new.decoder in
    subst (λ z. P z e.due e.start e.place) (sym w.levels) (subst (λ z. P d.levels.items z e.start e.place) (sym w.due) (subst (λ z. P d.levels.items d.due z e.place) (sym w.start) (subst (λ z. P d.levels.items d.due d.start z) (sym w.place) h)))

shows_same : (m : DerMessage ℕ) (xs : List Level) (d : Due) (start place : ℕ) (bytes : List ℕ) (old new : Option Region) → HasSamePieces old new → Shows m xs d start place old bytes → Shows m xs d start place new bytes
shows_same m xs d start place bytes None None same h = tt
shows_same m xs d start place bytes (Some a) (Some b) same h = λ r. subst (PartsShow m Start 0 r.parts) (sym same) (h r)
shows_same m xs d start place bytes None (Some b) same h = absurd same
shows_same m xs d start place bytes (Some a) None same h = absurd same

none_same : (old new : Option Region) → HasSamePieces old new → old ≡ None → new ≡ None
none_same None None same e = refl
none_same None (Some b) same e = absurd same
none_same (Some a) None same e = refl
none_same (Some a) (Some b) same e = absurd (cc)

same_none : (old new : Option Region) → HasSamePieces old new → new ≡ None → old ≡ None
same_none None new same e = refl
same_none (Some a) None same e = absurd same
same_none (Some a) (Some b) same e = absurd (cc)

keeps_same : (T : Tables) (d : Due) (old new : Option Region) (start : ℕ) (bytes : List ℕ) (before after : Held) → after.octets.items ≡ before.octets.items → after.leaf ≡ before.leaf → HasSamePieces old new
    → KeepsContents T d old start bytes before → KeepsContents T d new start bytes after
keeps_same T d old new start bytes before after octets opened same h =
    subst (λ z. KeepsOctets T d new start bytes after.leaf z) (sym octets) (subst (λ z. KeepsOctets T d new start bytes z before.octets.items) (sym opened) (by d before.leaf h))
  where
    by : (d : Due) (o : Option OpenLeaf) → KeepsOctets T d old start bytes o before.octets.items → KeepsOctets T d new start bytes o before.octets.items
    by (due.Contents spot left) None h = (h.0, λ none. h.1 (same_none old new same none))
    by (due.Contents spot left) (Some leaf) h = (h.0, none_same old new same h.1)
    by (due.Tag step) o h = h
    by (due.Length c spot step) o h = h
    by due.Over o h = h

pub widened_fed : (T : Tables) (old new : DerChecker) → IsWidened old new → (bytes : List ℕ) → HasFedDer old T bytes → HasFedDer new T bytes
widened_fed T old new w bytes h =
    let m = der_message T in
    let g = h.reading in
    let e = new.decoder in
    let reading : IsReading T e new.kept new.pieces bytes = record {
      read = as_before (λ xs a s p. Reads m (inwards xs) a s p bytes) old new w g.read;
      waits = as_before (λ xs a s p. IsWaiting a p (end_of_levels xs)) old new w g.waits;
      keeps = keeps_same T e.due old.pieces new.pieces e.start bytes old.kept new.kept w.kept w.opened w.pieces (as_before (λ xs a s p. KeepsContents T a old.pieces s bytes old.kept) old new w g.keeps);
      shows = shows_same m (inwards e.levels.items) e.due e.start e.place bytes old.pieces new.pieces w.pieces (as_before (λ xs a s p. Shows m (inwards xs) a s p old.pieces bytes) old new w g.shows);
    } in
    record { reading = reading; short = h.short; sound = w.failed ∙ h.sound }

pub widened_made : (T : Tables) (old new : DerChecker) → IsWidened old new → CheckTypes (types_of T) new.checks → IsDerCheckerFor old T → IsDerCheckerFor new T
widened_made T old new w checks h = record {
  checks = checks;
  given = λ none. (let g = h.given (sym w.failed ∙ none) in (g.0, widened_fed T old new w g.0 g.1));
  freed = λ e failed. widened_freed (h.freed e (sym w.failed ∙ failed));
}
  where
    widened_freed : IsFreed old → IsFreed new
    widened_freed f = record {
      leaf = (let octets = ap length w.kept in let check = ap held_by_envelope w.opened in let none = f.leaf in omega (arith, octets, check, none));
      opened = w.opened ∙ f.opened;
      header = as_before (λ xs a s p. header_come a s p ≡ 0) old new w f.header;
      values = w.levels ∙ f.values;
      pieces = none_same old.pieces new.pieces w.pieces f.pieces;
    }

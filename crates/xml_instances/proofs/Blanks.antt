-- White space where only that may stand leaves the content as it is.
use Rattle.std.proofs.Common.{◌≡◌, ℕ, true, List, Option, Some, None, refl, sym, subst}
use Rattle.std.specs.Prelude.{map}
use Rattle.std.specs.List.{list_all}
use Rattle.lexical_core.specs.Tree.{Char}
use Rattle.markup.specs.Chars.{is_space}
use Rattle.markup.specs.Literals.{IsRun}
use Rattle.message_model.specs.Message.{Message}
use Rattle.message_model.specs.Tables.{Tables, message_of, types_of}
use Rattle.xml_instances.specs.Levels.{Level}
use Rattle.xml_instances.specs.Built.{EventsShow}
use Rattle.xml_instances.specs.Keeping.{GoOn}
use Rattle.xml_instances.specs.Open.{IsOpen}
use Rattle.xml_instances.specs.inner.Quick.{IsRoomIn, IsRunTaken, MayTake}
use Rattle.xml_instances.specs.declared.content.Content.{Content}
use Rattle.xml_instances.specs.declared.content.quick.Room.TheVariants.{Blanks}
use Rattle.xml_instances.specs.declared.opened.Opened.{Opened}
use Rattle.xml_instances.specs.declared.opened.Opened.TheVariants as opened
use Rattle.xml_instances.proofs.GoingOn.{IsNoForeign, run_goes_on}
use Rattle.xml_instances.proofs.QuickRuns.{run_other}

pub blanks_taken : (m : Message ℕ) (ls : List (Level ℕ)) (run : List ℕ) (count : ℕ) (r : IsRun run count) (content : Content) → IsRoomIn m.forms content.innermost Blanks → list_all is_space run ≡ true → IsOpen content m ls
    → IsRunTaken m ls r.characters content
blanks_taken m ls run count r content room blank h = by content.innermost refl room
  where
    by : (o : Option Opened) → content.innermost ≡ o → IsRoomIn m.forms o Blanks → IsRunTaken m ls r.characters content
    by (Some (opened.Parent number last n)) is k = run_other m ls run count r content (Some (opened.Parent number last n)) is tt (subst (λ (x : Option Opened). MayTake m.forms x run) (sym is) (k, blank)) h
    by (Some (opened.Envelope filled)) is k = run_other m ls run count r content (Some (opened.Envelope filled)) is tt (subst (λ (x : Option Opened). MayTake m.forms x run) (sym is) blank) h
    by (Some opened.Text) is k = absurd k
    by (Some opened.Foreign) is k = absurd k
    by None is k = absurd k

no_foreign : (T : Tables) (o : Option Opened) → IsRoomIn (types_of T) o Blanks → IsNoForeign o
no_foreign T (Some (opened.Parent number last n)) k = tt
no_foreign T (Some (opened.Envelope filled)) k = tt
no_foreign T (Some opened.Text) k = absurd k
no_foreign T (Some opened.Foreign) k = absurd k
no_foreign T None k = absurd k

pub blanks_shown : (T : Tables) (ls : List (Level ℕ)) (cs : List ℕ) (content : Content) → IsRoomIn (types_of T) content.innermost Blanks → IsOpen content (message_of T) ls → GoOn content.pieces content.pieces (EventsShow T ls (map (λ c. Char c) cs))
blanks_shown T ls cs content room h = run_goes_on T ls cs content.innermost content.text content.round.items content.pieces content.pieces refl h (no_foreign T content.innermost room)

-- What the ASN.1 module of a message says of the bytes that are accepted.
use Rattle.std.specs.Prelude.{◌↔◌, ◌≤◌, ℕ, List, length}
use Rattle.fragments.specs.Fragment.{fragment}
use Rattle.repo_objects.specs.Repository.{Contents}
use Rattle.message_model.specs.Tables.{Tables}
use Rattle.asn1_model.specs.Values.{AsnValue}
use Rattle.asn1_model.specs.Agreement.{EncodesAs, AdmitsTheSame, HasInstanceValue, HasNoOthers}
use Rattle.transcoder.specs.Limited.{most_bytes}
use Rattle.transcoder.specs.Checked.{IsDerAccepted}
use Rattle.repo_engine.specs.Answer.{GivesRepository, GivesTables}

-- Of a message of the repository that the bytes r give, with the codes c where they are handed in: bytes of at most the limit are accepted
-- exactly where they are the DER of a value of the module's `Document`.
abbrev pub ModuleAdmitsWhatIsAccepted : Type 0
ModuleAdmitsWhatIsAccepted = (codes_word r c : List ℕ) (R : Contents) (id : List ℕ) (T : Tables) (bytes : List ℕ) → GivesRepository codes_word r c R → GivesTables R id T → length bytes ≤ most_bytes
    → IsDerAccepted T bytes ↔ ((a : AsnValue) × EncodesAs fragment T bytes a)

-- Of such a message any bytes are the DER of a value of the module's `Document` exactly where they are the DER of an instance; of an instance
-- that value is known, and each value is that of an instance.
abbrev pub ModuleAdmitsTheInstances : Type 0
ModuleAdmitsTheInstances = (codes_word r c : List ℕ) (R : Contents) (id : List ℕ) (T : Tables) → GivesRepository codes_word r c R → GivesTables R id T
    → AdmitsTheSame T × HasInstanceValue T × HasNoOthers T

-- The names are those of its own and the tags.
use Rattle.reference_check.specs.inner.Subjects.{subject_elements, subject_names}
use Rattle.reference_check.proofs.Joined.{bad_name-append}
use Rattle.reference_check.proofs.names.has_bad_name.Goals as goal

pub returns : goal.returns
returns c =
    bad_name-append (subject_names c.args.subject.now) (subject_elements c.args.subject.now) c.has_bad_own_name-own.result c.has_bad_tag-tag.result
    c.has_bad_own_name-own.ensures (rw c.elements.ensures at c.has_bad_tag-tag.ensures)

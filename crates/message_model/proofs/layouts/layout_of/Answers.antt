use Rattle.std.proofs.Common.{refl}
use Rattle.repo_objects.specs.declared.objects.ObjectKind.TheVariants as object
use Rattle.message_model.specs.Compiled.{place_of}
use Rattle.message_model.specs.inner.Numbers.{ids_at}
use Rattle.message_model.specs.Views.{slots_view}
use Rattle.message_model.proofs.TypeForms.{component_formed, choice_formed, elements_name}
use Rattle.message_model.proofs.layouts.layout_of.Goals as goal

pub returns-in_ok-slots_of-in-Component-clause-layout : goal.returns-in_ok-slots_of-in-Component-clause-layout
returns-in_ok-slots_of-in-Component-clause-layout c places are can =
    component_formed c.args.repository.now (place_of (ids_at c.args.repository.now.objects places)) c.args.object.now (slots_view c.in_ok-slots_of-in-Component.field-0) c.as_slice.result.now
    c.in-Component.is c.as_slice.ensures
    (c.in_ok-slots_of-in-Component.ensures places are (elements_name c.args.repository.now places c.args.object.now object.Component c.as_slice.result.now can c.in-Component.is c.as_slice.ensures refl))

pub returns-in_ok-slots_of-in-Choice-clause-layout : goal.returns-in_ok-slots_of-in-Choice-clause-layout
returns-in_ok-slots_of-in-Choice-clause-layout c places are can =
    choice_formed c.args.repository.now (place_of (ids_at c.args.repository.now.objects places)) c.args.object.now (slots_view c.in_ok-slots_of-in-Choice.field-0) c.as_slice-in-Choice.result.now
    c.in-Choice.is c.as_slice-in-Choice.ensures
    (c.in_ok-slots_of-in-Choice.ensures places are (elements_name c.args.repository.now places c.args.object.now object.Choice c.as_slice-in-Choice.result.now can c.in-Choice.is c.as_slice-in-Choice.ensures refl))

-- The amount that two values are, and the value of a body.
use Rattle.std.proofs.Common.{◌≡◌, ℕ, Bool, true, false, List, [], ◌∷◌, refl, sym, ap, ◌∙◌, subst, arith}
use Rattle.std.specs.Prelude.{codes}
use Rattle.std.proofs.lemmas.Bool.{cond-true, cond-false}
use Rattle.data_types.specs.Leaf.{Leaf}
use Rattle.data_types.specs.Leaf as leaf
use Rattle.data_types.specs.Value.{Value}
use Rattle.data_types.specs.Value as value
use Rattle.data_types.specs.declared.kind.Kind.{Kind}
use Rattle.data_types.specs.declared.kind.Kind.TheVariants as kind
use Rattle.facets.specs.LeafUnder.{Fits}
use Rattle.facets.specs.declared.simple.Simple.{Simple}
use Rattle.der_octets.specs.Octets.{Tag, context, Values, Nothing, Primitive, Constructed}
use Rattle.der_octets.proofs.OneReading.{not_false}
use Rattle.reference_check.specs.Forms.{Form, Slot}
use Rattle.reference_check.specs.Forms as form
use Rattle.message_model.specs.Admits.{FitsCode}
use Rattle.der_model.specs.LeafContents.{leaf_contents, IsContents, IsDecimalContents}
use Rattle.der_model.specs.DerMessage.{DerMessage}
use Rattle.der_model.specs.Structures.{Component, LeafOf, Holds, Fields, OneOf, structure, form_structure, components, amount_components, number_structure, is_constructed}
use Rattle.der_model.specs.Structures as structures
use Rattle.der_model.specs.Der.{Inner}
use Rattle.der_model.specs.States.{Begins, is_under, field_answer}
use Rattle.der_model.specs.Faults.{IsHeldIn}
use Rattle.der_model.specs.inner.Conforms.{Conforms}
use Rattle.der_model.specs.Sound.{IsSoundDer}
use Rattle.der_model.proofs.SoundMessages.{IsAmount, amounts_of}
use Rattle.der_model.proofs.ContentsLaws.{contents_are_written}
use Rattle.der_model.proofs.WholeValues.{under_same}
use Rattle.der_model.proofs.BegunSlots.{no_begin}
use Rattle.der_model.proofs.FieldsDecoded.{FromBody, FromFields}

-- a component that has to come is the next one
must_come : {P : Type 0} (i : ℕ) (c : Component P) (cs : List (Component P)) (b : Bool) (t : Tag) (k : ℕ) (d : Component P) → c.required ≡ true → field_answer i (c ∷ cs) b t ≡ Begins k d → (i ≡ k) × (c ≡ d) × (c.constructed ≡ b) × (c.tag ≡ t)
must_come {P} i c cs b t k d must e = go (is_under c b t) refl
  where
    same : Begins i c ≡ Begins k d → (i ≡ k) × (c ≡ d)
    same e = (cc, cc)

    go : (u : Bool) → is_under c b t ≡ u → (i ≡ k) × (c ≡ d) × (c.constructed ≡ b) × (c.tag ≡ t)
    go true h = (let q = same (sym (cond-true (is_under c b t) _ _ h) ∙ e) in let u = under_same c b t h in (q.0, q.1, u.0, u.1))
    go false h = absurd (no_begin _ _ k d (sym (cond-true c.required _ _ must) ∙ (sym (cond-false (is_under c b t) _ _ h) ∙ e)))

number_of_contents : (s : Simple) (o : List ℕ) (l : Leaf) → s.kind ≡ kind.Decimal → IsContents s.kind s.codes o l → Fits s l → (n : _) × (l ≡ leaf.Number n)
number_of_contents s o l e is fits = go l (subst (λ (k : Kind). IsContents k s.codes o l) e is)
  where
    go : (l : Leaf) → IsDecimalContents o l → (n : _) × (l ≡ leaf.Number n)
    go (leaf.Number n) h = (n, refl)
    go (leaf.Bytes b) h = absurd h
    go (leaf.Flag b) h = absurd h
    go (leaf.Code b) h = absurd h

code_of_contents : {P : Type 0} (m : DerMessage P) (c : P) (f : Form P Simple) (x : Simple) (o : List ℕ) → f ≡ form.Simple x → IsHeldIn m (form_structure m.forms c f) o → (l : Leaf) × FitsCode f l × (leaf_contents l ≡ o)
code_of_contents m c (form.Simple s) x o e (l, h) = (l, h.1, sym (contents_are_written s.kind s.codes o l h.0))
code_of_contents m c (form.Sequence fs) x o e h = absurd h
code_of_contents m c (form.Choice fs) x o e h = absurd h
code_of_contents m c (form.Money d s) x o e h = absurd h
code_of_contents m c form.Envelope x o e h = absurd cc
code_of_contents m c form.LeftOut x o e h = absurd h
code_of_contents m c form.Missing x o e h = absurd h

abbrev code_part : {P : Type 0} → P → Component P
code_part c = record { constructed = false; tag = context 0; required = true; label = structures.Attribute (codes "Ccy"); spot = structures.Value c }

abbrev number_part : {P : Type 0} → P → Component P
number_part p = record { constructed = false; tag = context 1; required = true; label = structures.Unnamed; spot = structures.NumberOf p }

amount_body : {P : Type 0} (m : DerMessage P) (p c : P) (s : Simple) → m.forms p ≡ form.Money c s → IsAmount m.forms (form.Money c s) → (inner : Values) → Conforms m (Fields (amount_components p c)) [] inner → FromBody m (form.Money c s) (Inner inner)
amount_body m p c s at amount Nothing e = absurd cc
amount_body m p c s at amount (Constructed tag i rest) (k, d, begins, held, more) = absurd (not_false (sym (must_come 0 (code_part c) (number_part p ∷ []) true tag k d refl begins).2))
amount_body {P} m p c s at (decimal, x, code) (Primitive tag o rest) (k, d, begins, held, more) =
    let first = must_come 0 (code_part c) (number_part p ∷ []) false tag k d refl begins in
    let held2 : IsHeldIn m (form_structure m.forms c (m.forms c)) o = subst (λ (z : Component P). IsHeldIn m (structure m z.spot) o) (sym first.1) held in
    let l = code_of_contents m c (m.forms c) x o code held2 in
    second tag o l first.3 rest (subst (λ z. Conforms m (Fields (amount_components p c)) (z ∷ []) rest) (sym first.0) more)
  where
    second : (tag : Tag) (o : List ℕ) → ((l : Leaf) × FitsCode (m.forms c) l × (leaf_contents l ≡ o)) → context 0 ≡ tag → (rest : Values) → Conforms m (Fields (amount_components p c)) (0 ∷ []) rest → FromBody m (form.Money c s) (Inner (Primitive tag o rest))
    second tag o l t Nothing e = absurd cc
    second tag o l t (Constructed u i more) (k, d, begins, held, last) = absurd (not_false (sym (must_come 1 (number_part p) [] true u k d refl begins).2))
    second tag o l t (Primitive u q more) (k, d, begins, held, last) =
        let next = must_come 1 (number_part p) [] false u k d refl begins in
        let number : IsHeldIn {P = P} m (Holds (LeafOf s)) q = subst (λ z. IsHeldIn m (number_structure z) q) at (subst (λ (z : Component P). IsHeldIn m (structure m z.spot) q) (sym next.1) held) in
        let n = number_of_contents s q number.0 decimal number.1.0 number.1.1 in
        let contents : leaf_contents (leaf.Number n.0) ≡ q = ap leaf_contents (sym n.1) ∙ sym (contents_are_written s.kind s.codes q number.0 number.1.0) in
        record {
          value = value.Amount l.0 n.0;
          admits = (l.1, subst (Fits s) n.1 number.1.1);
          written = ap Inner (ap (λ z. Primitive (context 0) z (Primitive (context 1) (leaf_contents (leaf.Number n.0)) Nothing)) l.2
              ∙ (ap (λ z. Primitive (context 0) o (Primitive (context 1) z Nothing)) contents
              ∙ (ap (λ z. Primitive z o (Primitive (context 1) q Nothing)) t
              ∙ (ap (λ z. Primitive tag o (Primitive z q Nothing)) next.3
              ∙ ap (λ z. Primitive tag o (Primitive u q z)) (sym (over more last next.0))))));
        }
      where
        over : (more : Values) → Conforms m (Fields (amount_components p c)) (k ∷ 0 ∷ []) more → 1 ≡ k → more ≡ Nothing
        over more conf e = ends more (subst (λ z. Conforms m (Fields (amount_components p c)) (z ∷ 0 ∷ []) more) (sym e) conf)
          where
            ends : (more : Values) → Conforms m (Fields (amount_components p c)) (1 ∷ 0 ∷ []) more → more ≡ Nothing
            ends Nothing h = refl
            ends (Primitive a b r) (x, y, z, w, v) = absurd cc
            ends (Constructed a b r) (x, y, z, w, v) = absurd cc

-- the value of a body that holds values
pub body_of_values : {P : Type 0} (m : DerMessage P) → IsSoundDer m → (p : P) (f : Form P Simple) (inner : Values) → m.forms p ≡ f → is_constructed f ≡ true → Conforms m (form_structure m.forms p f) [] inner
    → ((fs : List (Slot P)) → m.forms p ≡ form.Sequence fs → Conforms m (Fields (components m.forms p 0 fs)) [] inner → FromFields m fs 0 inner)
    → ((fs : List (Slot P)) → m.forms p ≡ form.Choice fs → Conforms m (OneOf (components m.forms p 0 fs)) [] inner → FromBody m (form.Choice fs) (Inner inner)) → FromBody m f (Inner inner)
body_of_values m sound p (form.Sequence fs) inner at e conf fields one =
    let r = fields fs at conf in
    record {
      value = value.Component r.children;
      admits = (record { ordered = r.ordered; within = λ k s f. r.within k s (omega arith) f }, r.admits);
      written = ap Inner (sym r.written);
    }
body_of_values m sound p (form.Choice fs) inner at e conf fields one = one fs at conf
body_of_values m sound p (form.Money c s) inner at e conf fields one = amount_body m p c s at (subst (λ z. IsAmount m.forms z) at (amounts_of m sound p)) inner conf
body_of_values m sound p (form.Simple s) inner at e conf fields one = absurd (let q : false ≡ true = e in cc)
body_of_values m sound p form.Envelope inner at e conf fields one = absurd (let q : false ≡ true = e in cc)
body_of_values m sound p form.LeftOut inner at e conf fields one = absurd (let q : false ≡ true = e in cc)
body_of_values m sound p form.Missing inner at e conf fields one = absurd (let q : false ≡ true = e in cc)

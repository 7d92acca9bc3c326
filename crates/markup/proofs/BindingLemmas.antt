-- Look-ups of prefixes by the map, and the declarations that are open.
use Rattle.std.proofs.Common.{◌≡◌, ℕ, zero, suc, ◌+◌, ◌<◌, Bool, true, false, ◌||◌, leb, List, [], ◌∷◌, ◌++◌, length, reverse, drop, get_or, Option, Some, None, refl, sym, ap, subst, ◌∙◌, arith}
use Rattle.std.specs.Global.{Vec}
use Rattle.std.specs.Bool.{if◌then◌else◌}
use Rattle.std.specs.BTreeMap.{BTreeMap, UpdatesBy}
use Rattle.std.specs.Cmp.Lexicographic.{slice_cmp}
use Rattle.std.specs.List.{list_any}
use Rattle.std.specs.Option.{unwrap_or, is_some, IsSome}
use Rattle.std.specs.declared.cmp.Ordering.TheVariants.{Equal}
use Rattle.std.specs.Ordering.{nat_cmp}
use Rattle.std.specs.Str.{bytes_eq}
use Rattle.std.proofs.lemmas.Bool.{le-leb, lt-leb}
use Rattle.std.proofs.lemmas.List.{reverse-append, reverse-reverse, length-reverse, length-append, get_or_append_left}
use Rattle.std.proofs.lemmas.Slice.Eq.{bytes_eq-Decides}
use Rattle.std.proofs.Math.Nat.{suc-add}
use Rattle.std.proofs.Math.Seq.{get_or-append_seam, drop-nil}
use Rattle.std.proofs.lemmas.Option.{same_Some}
use Rattle.lexical_core.proofs.ByteKeys.{key_cmp, found_updated}
use Rattle.lexical_core.proofs.Lists.{same_parts}
use Rattle.markup.specs.declared.tag.Given.{Given}
use Rattle.markup.specs.declared.open_bindings.Binding.{Binding}
use Rattle.markup.specs.declared.bindings.Bindings.{Bindings}
use Rattle.markup.specs.Events.{declared_prefix, same_prefix, bound_by}
use Rattle.markup.specs.declared.origin.Origin.{Origin}
use Rattle.markup.specs.inner.Bindings.{declares, place_declared, prefix_declared, binding, bindings, place_in, Binds}
use Rattle.markup.proofs.RankLemmas.{same_compared}
use Rattle.markup.specs.inner.Origins.{namespace_from}

-- ---- vectors as stacks

-- the last element that is taken from the end is the first in reverse
pub popped_first : {X : Type 0} (all left : List X) (last first : X) (others : List X) → all ≡ left ++ last ∷ [] → reverse all ≡ first ∷ others → (last ≡ first) × (reverse left ≡ others)
popped_first all left last first others popped is = same_parts last first (reverse left) others (sym (reverse-append left (last ∷ [])) ∙ sym (ap reverse popped) ∙ is)

pub popped_none : {X : Type 0} (all left : List X) (last : X) → all ≡ left ++ last ∷ [] → reverse all ≡ [] → ⊥
popped_none all left last popped is = let none : last ∷ reverse left ≡ [] = sym (reverse-append left (last ∷ [])) ∙ sym (ap reverse popped) ∙ is in absurd cc

-- ---- the map by bytes

-- what is found under any prefix once one was changed
pub places_updated : (p : List ℕ) (m n : BTreeMap (Vec ℕ) ℕ) (w : Option ℕ) → UpdatesBy key_cmp (λ k. slice_cmp nat_cmp p k.items) m n w → (q : List ℕ) → place_in n q ≡ (if bytes_eq p q then w else place_in m q)
places_updated p m n w h q = found_updated p m n w h q

-- ---- the place of a prefix's latest declaration

module _ (d : Given) (before : List Given) (p : List ℕ) where
  placed_here : declares p d ≡ true → place_declared (d ∷ before) p ≡ Some (length before)
  placed_here e = ap (λ b. if b then Some (length before) else place_declared before p) e

  placed_behind : declares p d ≡ false → place_declared (d ∷ before) p ≡ place_declared before p
  placed_behind e = ap (λ b. if b then Some (length before) else place_declared before p) e

  bound_here : declares p d ≡ true → bound_by (d ∷ before) p ≡ Some d.value
  bound_here e = ap (λ b. if b then Some d.value else bound_by before p) e

  bound_behind : declares p d ≡ false → bound_by (d ∷ before) p ≡ bound_by before p
  bound_behind e = ap (λ b. if b then Some d.value else bound_by before p) e

pub place_within : (declared : List Given) (p : List ℕ) (i : ℕ) → place_declared declared p ≡ Some i → i < length declared
place_within [] p i e = absurd cc
place_within (d ∷ before) p i e = case (declares p d) refl (place_within before p i)
  where
    case : (b : Bool) → declares p d ≡ b → (place_declared before p ≡ Some i → i < length before) → i < length (d ∷ before)
    case true is so = let same : length before ≡ i = same_Some (length before) i (sym (placed_here d before p is) ∙ e) in omega arith
    case false is so = let below : i < length before = so (sym (placed_behind d before p is) ∙ e) in omega arith

-- ---- what is kept at a place

length-bindings : (declared : List Given) → length (bindings declared) ≡ length declared
length-bindings [] = refl
length-bindings (d ∷ before) = ap (λ n. suc n) (length-bindings before)

pub length-kept : (declared : List Given) (kept : List Binding) → reverse kept ≡ bindings declared → length kept ≡ length declared
length-kept declared kept is = sym (length-reverse kept) ∙ ap length is ∙ length-bindings declared

turned_at : (declared : List Given) (p : List ℕ) (i : ℕ) (e : Binding) → place_declared declared p ≡ Some i → Some (get_or (reverse (bindings declared)) i e).namespace ≡ bound_by declared p
turned_at [] p i e is = absurd cc
turned_at (d ∷ before) p i e is = case (declares p d) refl (turned_at before p i e)
  where
    kept : List Binding
    kept = reverse (bindings before)

    long : length kept ≡ length before
    long = length-reverse (bindings before) ∙ length-bindings before

    turned : reverse (bindings (d ∷ before)) ≡ kept ++ binding d before ∷ []
    turned = reverse-append (binding d before ∷ []) (bindings before)

    whole : Some (get_or (reverse (bindings (d ∷ before))) i e).namespace ≡ Some (get_or (kept ++ binding d before ∷ []) i e).namespace
    whole = ap (λ (bs : List Binding). Some (get_or bs i e).namespace) turned

    case : (b : Bool) → declares p d ≡ b → (place_declared before p ≡ Some i → Some (get_or kept i e).namespace ≡ bound_by before p) → Some (get_or (reverse (bindings (d ∷ before))) i e).namespace ≡ bound_by (d ∷ before) p
    case true here so =
        let spot : i ≡ length kept = sym (same_Some (length before) i (sym (placed_here d before p here) ∙ is)) ∙ sym long in
        whole ∙ ap (λ (n : ℕ). Some (get_or (kept ++ binding d before ∷ []) n e).namespace) spot
        ∙ ap (λ (b : Binding). Some b.namespace) (get_or-append_seam kept (binding d before) [] e) ∙ sym (bound_here d before p here)
    case false here so =
        let there : place_declared before p ≡ Some i = sym (placed_behind d before p here) ∙ is in
        let below : i < length kept = subst (λ n. i < n) (sym long) (place_within before p i there) in
        whole ∙ ap (λ (b : Binding). Some b.namespace) (get_or_append_left kept (binding d before ∷ []) e i below) ∙ so there ∙ sym (bound_behind d before p here)

-- what is kept of a declaration binds its prefix
pub namespace_at : (declared : List Given) (kept : List Binding) (p : List ℕ) (i : ℕ) (e : Binding) → reverse kept ≡ bindings declared → place_declared declared p ≡ Some i → Some (get_or kept i e).namespace ≡ bound_by declared p
namespace_at declared kept p i e is found =
    ap (λ (bs : List Binding). Some (get_or bs i e).namespace) (sym (reverse-reverse kept) ∙ ap reverse is) ∙ turned_at declared p i e found

pub unbound : (declared : List Given) (p : List ℕ) → place_declared declared p ≡ None → bound_by declared p ≡ None
unbound [] p e = refl
unbound (d ∷ before) p e = case (declares p d) refl (unbound before p)
  where
    case : (b : Bool) → declares p d ≡ b → (place_declared before p ≡ None → bound_by before p ≡ None) → bound_by (d ∷ before) p ≡ None
    case true is so = let some : Some (length before) ≡ None = sym (placed_here d before p is) ∙ e in absurd cc
    case false is so = bound_behind d before p is ∙ so (sym (placed_behind d before p is) ∙ e)

-- ---- namespaces of one origin

pub one_compared : (kept : Bindings) (left right : Origin) → left ≡ right → Equal ≡ slice_cmp nat_cmp (namespace_from kept left) (namespace_from kept right)
one_compared kept left right same = sym (same_compared (namespace_from kept left) (namespace_from kept right) (ap (namespace_from kept) same))

-- ---- what is open behind the outer declarations

-- a place is behind those of the outer declarations where one of the others declares the prefix
pub is_behind : (own before : List Given) (p : List ℕ) (i : ℕ) → place_declared (own ++ before) p ≡ Some i → leb (length before) i ≡ list_any (declares p) own
is_behind [] before p i e = lt-leb (length before) i (place_within before p i e)
is_behind (d ∷ own) before p i e = case (declares p d) refl (is_behind own before p i)
  where
    case : (b : Bool) → declares p d ≡ b → (place_declared (own ++ before) p ≡ Some i → leb (length before) i ≡ list_any (declares p) own) → leb (length before) i ≡ list_any (declares p) (d ∷ own)
    case true is so =
        let same : length (own ++ before) ≡ i = same_Some (length (own ++ before)) i (sym (placed_here d (own ++ before) p is) ∙ e) in
        le-leb (length before) i (omega (arith, same, length-append own before)) ∙ sym (ap (λ b. b || list_any (declares p) own) is)
    case false is so = so (sym (placed_behind d (own ++ before) p is) ∙ e) ∙ sym (ap (λ b. b || list_any (declares p) own) is)

pub none_behind : (own before : List Given) (p : List ℕ) → place_declared (own ++ before) p ≡ None → false ≡ list_any (declares p) own
none_behind [] before p e = refl
none_behind (d ∷ own) before p e = case (declares p d) refl (none_behind own before p)
  where
    case : (b : Bool) → declares p d ≡ b → (place_declared (own ++ before) p ≡ None → false ≡ list_any (declares p) own) → false ≡ list_any (declares p) (d ∷ own)
    case true is so = let some : Some (length (own ++ before)) ≡ None = sym (placed_here d (own ++ before) p is) ∙ e in absurd cc
    case false is so = so (sym (placed_behind d (own ++ before) p is) ∙ e) ∙ sym (ap (λ b. b || list_any (declares p) own) is)

-- ---- one more declaration, and one less

-- what is kept of it
kept_as : (given : Given) (declared : List Given) (p namespace : List ℕ) (former : Option ℕ) → declared_prefix given.name ≡ Some p → given.value ≡ namespace → former ≡ place_declared declared p
    → ◌≡◌ {A = Binding} (record { prefix = p; namespace = namespace; former = former }) (binding given declared)
kept_as given declared p namespace former declares_it value_is is =
    let same : p ≡ prefix_declared given = sym (ap (λ o. unwrap_or o []) declares_it) in
    ap (λ (f : Option ℕ). record { prefix = p; namespace = namespace; former = f }) is
    ∙ ap (λ (n : List ℕ). record { prefix = p; namespace = n; former = place_declared declared p }) (sym value_is)
    ∙ ap (λ (q : List ℕ). record { prefix = q; namespace = given.value; former = place_declared declared q }) same

pub binds_more : (declared : List Given) (given : Given) (old new : Bindings) (p namespace : List ℕ) (former : Option ℕ) (place : ℕ)
    → Binds old declared → declared_prefix given.name ≡ Some p → given.value ≡ namespace → former ≡ place_in old.latest p → place ≡ length old.open
    → new.open ≡ old.open ++ (record { prefix = p; namespace = namespace; former = former }) ∷ []
    → ((q : List ℕ) → place_in new.latest q ≡ (if bytes_eq p q then Some place else place_in old.latest q)) → Binds new (given ∷ declared)
binds_more declared given old new p namespace former place was declares_it value_is is_former is_place pushed updated = record {
  open_are = ap reverse pushed ∙ reverse-append old.open ((record { prefix = p; namespace = namespace; former = former }) ∷ [])
      ∙ ap (λ (b : Binding). b ∷ reverse old.open) (kept_as given declared p namespace former declares_it value_is (is_former ∙ was.latest_are p)) ∙ ap (λ (bs : List Binding). binding given declared ∷ bs) was.open_are;
  latest_are = λ q. updated q ∙ ap (λ n. if bytes_eq p q then Some n else place_in old.latest q) (is_place ∙ length-kept declared old.open was.open_are)
      ∙ ap (λ o. if bytes_eq p q then Some (length declared) else o) (was.latest_are q) ∙ ap (λ o. if same_prefix o q then Some (length declared) else place_declared declared q) (sym declares_it);
}

declares_other : (o : Option (List ℕ)) (q : List ℕ) → bytes_eq (unwrap_or o []) q ≡ false → same_prefix o q ≡ false
declares_other None q e = refl
declares_other (Some p) q e = e

-- the declaration's prefix has a place where it had one before
had_place : (d : Given) (before : List Given) (p : List ℕ) (i : ℕ) → place_declared before p ≡ Some i → IsSome (place_declared (d ∷ before) p)
had_place d before p i e = case (declares p d) refl
  where
    case : (b : Bool) → declares p d ≡ b → IsSome (place_declared (d ∷ before) p)
    case true is = ap is_some (placed_here d before p is)
    case false is = ap is_some (placed_behind d before p is ∙ e)

pub binds_less : (declared : List Given) (old new : Bindings) (last : Binding) → Binds old declared → old.open ≡ new.open ++ last ∷ []
    → (((i : ℕ) → last.former ≡ Some i → IsSome (place_in old.latest last.prefix)) → (q : List ℕ) → place_in new.latest q ≡ (if bytes_eq last.prefix q then last.former else place_in old.latest q))
    → Binds new (drop 1 declared)
binds_less [] old new last was popped updated = absurd (popped_none old.open new.open last popped was.open_are)
binds_less (d ∷ before) old new last was popped updated =
    let parts = popped_first old.open new.open last (binding d before) (bindings before) popped was.open_are in
    record { open_are = parts.1; latest_are = λ q. at parts.0 q (bytes_eq last.prefix q) refl }
  where
    at : last ≡ binding d before → (q : List ℕ) (b : Bool) → bytes_eq last.prefix q ≡ b → place_in new.latest q ≡ place_declared before q
    at same q b e =
        let prefix_is : last.prefix ≡ prefix_declared d = ap (λ (b : Binding). b.prefix) same in
        let former_is : last.former ≡ place_declared before last.prefix = ap (λ (b : Binding). b.former) same ∙ ap (place_declared before) (sym prefix_is) in
        let now : place_in new.latest q ≡ (if bytes_eq last.prefix q then last.former else place_in old.latest q) =
        updated (λ i f. subst IsSome (sym (was.latest_are last.prefix)) (had_place d before last.prefix i (sym former_is ∙ f))) q in
        now ∙ ap (λ b. if b then last.former else place_in old.latest q) e ∙ by_case prefix_is former_is b e
      where
        by_case : last.prefix ≡ prefix_declared d → last.former ≡ place_declared before last.prefix → (b : Bool) → bytes_eq last.prefix q ≡ b → (if b then last.former else place_in old.latest q) ≡ place_declared before q
        by_case prefix_is former_is true e = former_is ∙ ap (place_declared before) ((bytes_eq-Decides last.prefix q).0 e)
        by_case prefix_is former_is false e =
            was.latest_are q ∙ placed_behind d before q (declares_other (declared_prefix d.name) q (ap (λ p. bytes_eq p q) (sym prefix_is) ∙ e))

-- none was open
pub binds_none : (declared : List Given) (old new : Bindings) → Binds old declared → old.open ≡ [] → new.open ≡ [] → new.latest ≡ old.latest → Binds new (drop 1 declared)
binds_none [] old new was none still same = record { open_are = ap reverse still; latest_are = λ q. ap (λ places. place_in places q) same ∙ was.latest_are q }
binds_none (d ∷ before) old new was none still same = let empty : [] ≡ bindings (d ∷ before) = sym (ap reverse none) ∙ was.open_are in absurd cc

pub drop_more : (i : ℕ) (declared : List Given) → drop 1 (drop i declared) ≡ drop (i + 1) declared
drop_more zero declared = refl
drop_more (suc i) [] = drop-nil 1 ∙ sym (drop-nil (suc i + 1))
drop_more (suc i) (d ∷ declared) = drop_more i declared ∙ sym (ap (λ n. drop n (d ∷ declared)) (suc-add i 1))

-- The contents that nodes stand for.
use Rattle.std.proofs.Common.{◌≡◌, ℕ, zero, suc, ◌+◌, ◌<◌, ◌≤◌, List, [], ◌∷◌, ◌++◌, length, get_or, slice_get, Some, None, refl, sym, ap, ap₂, subst, ◌∙◌, arith, inl, inr, length-append}
use Rattle.std.proofs.lemmas.List.{get_or_append_left}
use Rattle.inst_pool.specs.inner.Nodes.{edge_in, content_by, content_of, node_kind, number_in, IsKindWithin, IsNodeWithin, AreNodesWithin, AreNodes, contents_in}
use Rattle.inst_pool.specs.inner.Others.{AreBetween, other_at, HasOther}
use Rattle.inst_pool.specs.inner.Texts.{HasOneMore}
use Rattle.inst_pool.specs.declared.content.Content.{Content}
use Rattle.inst_pool.specs.declared.content.Content.TheVariants as long
use Rattle.inst_pool.specs.declared.node.Kind.{Kind}
use Rattle.inst_pool.specs.declared.node.Kind.TheVariants.{Open, Bytes, Number, Flag, Code, Close, Amount, Apart}
use Rattle.inst_pool.specs.declared.node.Node.{Node}
use Rattle.inst_pool.specs.declared.piece.Edge.{Edge}
use Rattle.inst_pool.specs.declared.others.Other.{Other}
use Rattle.inst_pool.proofs.OtherLemmas.{has_more, has_last, other_more, other_last, between_more, between_push}

pub length_contents : (texts : List Content) (others : List Other) (at : ℕ) (nodes : List Node) → length (contents_in texts others at nodes) ≡ length nodes
length_contents texts others at [] = refl
length_contents texts others at (n ∷ nodes) = ap suc (length_contents texts others (suc at) nodes)

-- ---- texts and others that are longer

-- what was there is there, and is the same
pub record GoesOn (texts : List Content) (others : List Other) (texts' : List Content) (others' : List Other) : Type 0 where
  pub has_texts : (k : ℕ) (d : Content) → k < length texts → (k < length texts') × (get_or texts' k d ≡ get_or texts k d)
  pub has_others : (at : ℕ) → HasOther others at → HasOther others' at × (other_at others' at ≡ other_at others at)

pub same_goes_on : (texts : List Content) (others : List Other) → GoesOn texts others texts others
same_goes_on texts others = record { has_texts = λ k d lt. (lt, refl); has_others = λ at h. (h, refl) }

texts_go_on : (texts : List Content) (others : List Other) (x : Content) → GoesOn texts others (texts ++ x ∷ []) others
texts_go_on texts others x = record {
  has_texts = λ k d lt. (let n = length-append texts (x ∷ []) in omega (arith, n, lt), get_or_append_left texts (x ∷ []) d k lt);
  has_others = λ at h. (h, refl);
}

pub more_goes_on : (texts texts' : List Content) (others : List Other) → HasOneMore texts texts' → GoesOn texts others texts' others
more_goes_on texts texts' others (inl same) = subst (λ (t : List Content). GoesOn texts others t others) (sym same) (same_goes_on texts others)
more_goes_on texts texts' others (inr more) = subst (λ (t : List Content). GoesOn texts others t others) (sym more.1) (texts_go_on texts others more.0)

pub other_goes_on : (texts : List Content) (others : List Other) (x : Other) → GoesOn texts others texts (others ++ x ∷ [])
other_goes_on texts others x = record { has_texts = λ k d lt. (lt, refl); has_others = λ at h. (has_more others x at h, other_more others x at h) }

pub count_more : (texts texts' : List Content) (n : ℕ) → HasOneMore texts texts' → length texts ≤ n → length texts' ≤ n + 1
count_more texts texts' n (inl same) le = (let e = ap length same in omega (arith, e, le))
count_more texts texts' n (inr more) le = (let e = ap length more.1 in let l = length-append texts (more.0 ∷ []) in omega (arith, e, l, le))

-- ---- nodes beside longer texts and others

module _ (texts : List Content) (others : List Other) (texts' : List Content) (others' : List Other) (g : GoesOn texts others texts' others') where
  content_goes_on : (at : ℕ) (kind : Kind) (held : ℕ) → IsKindWithin texts others at kind held → content_by texts' others' at kind held ≡ content_by texts others at kind held
  content_goes_on at Open held h = refl
  content_goes_on at Bytes held h = (g.has_texts held (long.Code 0) h).1
  content_goes_on at Number held h = refl
  content_goes_on at Flag held h = refl
  content_goes_on at Code held h = refl
  content_goes_on at Close held h = refl
  content_goes_on at Amount held h = refl
  content_goes_on at Apart held h = (g.has_others at h).1

  within_goes_on : (at : ℕ) (kind : Kind) (held : ℕ) → IsKindWithin texts others at kind held → IsKindWithin texts' others' at kind held
  within_goes_on at Open held h = tt
  within_goes_on at Bytes held h = (g.has_texts held (long.Code 0) h).0
  within_goes_on at Number held h = h
  within_goes_on at Flag held h = tt
  within_goes_on at Code held h = tt
  within_goes_on at Close held h = tt
  within_goes_on at Amount held h = h
  within_goes_on at Apart held h = (g.has_others at h).0

  contents_append : (at end : ℕ) (nodes more : List Node) → end ≡ at + length nodes → AreNodesWithin texts others at nodes
      → contents_in texts' others' at (nodes ++ more) ≡ contents_in texts others at nodes ++ contents_in texts' others' end more
  contents_append at end [] more e h = (let e' : at ≡ end = omega (arith, e) in ap (λ (n : ℕ). contents_in texts' others' n more) e')
  contents_append at end (n ∷ nodes) more e h =
      ap₂ (λ (c : Content) (l : List Content). c ∷ l) (content_goes_on at (node_kind n) (number_in n) h.0) (contents_append (suc at) end nodes more (omega (arith, e)) h.1)

  within_append : (at end : ℕ) (nodes more : List Node) → end ≡ at + length nodes → AreNodesWithin texts others at nodes → AreNodesWithin texts' others' end more
      → AreNodesWithin texts' others' at (nodes ++ more)
  within_append at end [] more e h i = (let e' : end ≡ at = omega (arith, e) in subst (λ (n : ℕ). AreNodesWithin texts' others' n more) e' i)
  within_append at end (n ∷ nodes) more e h i = (within_goes_on at (node_kind n) (number_in n) h.0, within_append (suc at) end nodes more (omega (arith, e)) h.1 i)

  -- more nodes
  pub pushed : (nodes more : List Node) (cs : List Content) → AreNodes texts others nodes → contents_in texts' others' (length nodes) more ≡ cs
      → contents_in texts' others' 0 (nodes ++ more) ≡ contents_in texts others 0 nodes ++ cs
  pushed nodes more cs h e = contents_append 0 (length nodes) nodes more (omega arith) h.within ∙ ap (λ (l : List Content). contents_in texts others 0 nodes ++ l) e

  pub fits_push : (nodes more : List Node) → AreNodes texts others nodes → AreNodesWithin texts' others' (length nodes) more → length texts' ≤ length nodes + length more
      → AreBetween 0 (length nodes + length more) others' → AreNodes texts' others' (nodes ++ more)
  fits_push nodes more h i t o =
      let e : length (nodes ++ more) ≡ length nodes + length more = length-append nodes more in record {
        within = within_append 0 (length nodes) nodes more (omega arith) h.within i;
        count = omega (arith, e, t);
        order = rw e o;
      }

-- ---- the content at a place

some_injective : (y x : Node) → Some y ≡ Some x → y ≡ x
some_injective y x e = cc

pub got_node : (texts : List Content) (others : List Other) (at end k : ℕ) (nodes : List Node) (x : Node) → end ≡ at + k → slice_get nodes k ≡ Some x
    → slice_get (contents_in texts others at nodes) k ≡ Some (content_of texts others end x)
got_node texts others at end k [] x e is = absurd (let e' : None ≡ Some x = is in cc)
got_node texts others at end zero (y ∷ nodes) x e is =
    let same : y ≡ x = some_injective y x is in
    let there : at ≡ end = omega (arith, e) in
    ap₂ (λ (n : ℕ) (z : Node). Some (content_of texts others n z)) there same
got_node texts others at end (suc k) (y ∷ nodes) x e is = got_node texts others (suc at) end k nodes x (omega (arith, e)) is

pub within_at : (texts : List Content) (others : List Other) (at end k : ℕ) (nodes : List Node) (x : Node) → end ≡ at + k → AreNodesWithin texts others at nodes → slice_get nodes k ≡ Some x
    → IsNodeWithin texts others end x
within_at texts others at end k [] x e h is = absurd (let e' : None ≡ Some x = is in cc)
within_at texts others at end zero (y ∷ nodes) x e h is =
    let same : y ≡ x = some_injective y x is in
    let there : at ≡ end = omega (arith, e) in
    subst (λ (n : ℕ). IsNodeWithin texts others n x) there (subst (λ (z : Node). IsNodeWithin texts others at z) same h.0)
within_at texts others at end (suc k) (y ∷ nodes) x e h is = within_at texts others (suc at) end k nodes x (omega (arith, e)) h.1 is

-- ---- one more node of a kind that is known

module _ (texts : List Content) (others : List Other) (at : ℕ) (node : Node) where
  content_is : (kind : Kind) (held : ℕ) → node_kind node ≡ kind → number_in node ≡ held → content_of texts others at node ≡ content_by texts others at kind held
  content_is kind held is_kind is_held = ap₂ (λ (k : Kind) (h : ℕ). content_by texts others at k h) is_kind is_held

  pub opens : (held : ℕ) (edge : Edge) → node_kind node ≡ Open → number_in node ≡ held → edge_in held ≡ edge → content_of texts others at node ≡ long.Open edge
  opens held edge is_kind is_held is = content_is Open held is_kind is_held ∙ ap long.Open is

  pub closes : (held : ℕ) (edge : Edge) → node_kind node ≡ Close → number_in node ≡ held → edge_in held ≡ edge → content_of texts others at node ≡ long.Close edge
  closes held edge is_kind is_held is = content_is Close held is_kind is_held ∙ ap long.Close is

  within_is : (kind : Kind) → node_kind node ≡ kind → IsKindWithin texts others at kind (number_in node) → IsNodeWithin texts others at node
  within_is kind is h = subst (λ (k : Kind). IsKindWithin texts others at k (number_in node)) (sym is) h

  pub open_within : node_kind node ≡ Open → IsNodeWithin texts others at node
  open_within is = within_is Open is tt

  pub close_within : node_kind node ≡ Close → IsNodeWithin texts others at node
  close_within is = within_is Close is tt

-- a content that stands apart, and its node
module _ (texts : List Content) (others : List Other) (nodes : List Node) (node : Node) (x : Other) (h : AreNodes texts others nodes) (place : x.at ≡ length nodes) (kind : node_kind node ≡ Apart) where
  pub apart_fits : AreNodes texts (others ++ x ∷ []) (nodes ++ node ∷ [])
  apart_fits =
      let has = subst (λ (n : ℕ). HasOther (others ++ x ∷ []) n) place (has_last others x) in
      let next : suc x.at ≡ length nodes + 1 = omega (arith, place) in
      let order = subst (λ (n : ℕ). AreBetween 0 n (others ++ x ∷ [])) next (between_push 0 (length nodes) others x (omega (arith, place)) h.order) in
      let count = h.count in
      fits_push texts others texts (others ++ x ∷ []) (other_goes_on texts others x) nodes (node ∷ []) h (within_is texts (others ++ x ∷ []) (length nodes) node Apart kind has, tt) (omega (arith, count)) order

  pub pushed_apart : contents_in texts (others ++ x ∷ []) 0 (nodes ++ node ∷ []) ≡ contents_in texts others 0 nodes ++ x.content ∷ []
  pushed_apart =
      let last : other_at (others ++ x ∷ []) (length nodes) ≡ x.content =
      subst (λ (n : ℕ). other_at (others ++ x ∷ []) n ≡ x.content) place (other_last 0 (length nodes) others x h.order (omega (arith, place))) in
      let is = content_is texts (others ++ x ∷ []) (length nodes) node Apart (number_in node) kind refl ∙ last in
      pushed texts others texts (others ++ x ∷ []) (other_goes_on texts others x) nodes (node ∷ []) (x.content ∷ []) h (ap (λ (c : Content). c ∷ []) is)

-- nodes behind which a text may be noted
module _ (texts : List Content) (others : List Other) (texts' : List Content) (nodes more : List Node) (h : AreNodes texts others nodes) (longer : HasOneMore texts texts') where
  pub short_fits : 1 ≤ length more → AreNodesWithin texts' others (length nodes) more → AreNodes texts' others (nodes ++ more)
  short_fits some within =
      let count = count_more texts texts' (length nodes) longer h.count in
      fits_push texts others texts' others (more_goes_on texts texts' others longer) nodes more h within (omega (arith, some, count)) (between_more 0 (length nodes) (length nodes + length more) others (omega arith) h.order)

  pub pushed_short : (cs : List Content) → contents_in texts' others (length nodes) more ≡ cs → contents_in texts' others 0 (nodes ++ more) ≡ contents_in texts others 0 nodes ++ cs
  pushed_short cs e = pushed texts others texts' others (more_goes_on texts texts' others longer) nodes more cs h e

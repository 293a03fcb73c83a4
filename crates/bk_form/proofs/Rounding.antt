-- Values that come before themselves, as paths.
use Rattle.std.proofs.Common.{◌≡◌, ◌∙◌, sym, refl, ap, subst, ℕ, ◌+◌, ◌<◌, ◌≤◌, ◌↔◌, Bool, true, false, List, [], length, get_or, replicate, Option, None, Some, ⊎_elim, arith}
use Rattle.std.specs.Bool.{MatchBool}
use Rattle.std.specs.List.{All, Contains, slice_get}
use Rattle.std.proofs.lemmas.Bool.{cases_lt, false≢true}
use Rattle.std.proofs.lemmas.List.{get_or_default, get_or_past, get_or-replicate, length-replicate}
use Rattle.std.proofs.lemmas.List.Elements.{All-contains, Contains-get_or}
use Rattle.std.proofs.lemmas.Option.{none-some, same_Some}
use Rattle.bk_func.specs.Records.{ValueRecord, BlockRecord, FuncRecord}
use Rattle.bk_func.specs.Form.Before.{ComesBefore, argument, state, checks, needed, unneeded, Precedes, right, onward}
use Rattle.bk_func.specs.Form.Text.{HasValue}
use Rattle.bk_places.proofs.Leading.{leads_on}
use Rattle.bk_places.proofs.Elements.{none_in, at_contains}
use Rattle.bk_places.proofs.Marking.{marked_or, none_closed, marked_still}
use Rattle.bk_places.proofs.Reaching.{path_start}
use Rattle.bk_places.specs.Search.{Leads, IsEdge, Path, here, onward as farther, IsMarked, Marks, IsClosed, Grows}
use Rattle.bk_form.specs.Numbers.{value_ids, sole}
use Rattle.bk_form.specs.Orders.{IsOrder, RisesTo, Settles}
use Rattle.bk_form.specs.Places.{node_at, nodes_of}
use Rattle.bk_form.proofs.Copied.{AreValues}
use Rattle.bk_form.proofs.Standing.{node_in, node_of, node_alone}

-- nothing leads back to a place with a rank
path_settles : (es : List (List ℕ)) (rs : List ℕ) → Settles es rs → (a s p : ℕ) → Path es a s p → 0 < get_or rs p 0 → (0 < get_or rs s 0) × (get_or rs s 0 ≤ get_or rs p 0)
path_settles es rs up a s _ (here within) ranked = (ranked, omega arith)
path_settles es rs up a s _ (farther t q path apart edge within) ranked =
    let (low, less) = up t q edge ranked in
    let (first, most) = path_settles es rs up a s t path low in
    (first, omega arith)

pub none_leads : (es : List (List ℕ)) (rs : List ℕ) → Settles es rs → (p : ℕ) → 0 < get_or rs p 0 → ¬ Leads es p p
none_leads es rs up p ranked (t, e, w, path) =
    let (first, most) = path_settles es rs up (length es) t p path ranked in
    let (low, less) = up p t e first in
    absurd (omega arith)

-- both stand in the block
comes_second : (f : FuncRecord) (b : BlockRecord) (u v : ValueRecord) → ComesBefore f b u v → Contains b.values v
comes_second f b _ _ (argument u v taken) = taken.1
comes_second f b _ _ (state u v s mu role names is given) = is.0.1
comes_second f b _ _ (checks u v s cu cv listed) = cv.0
comes_second f b _ _ (needed u v w s cu lv cw needs first listed) = lv.0
comes_second f b _ _ (unneeded u v s cu lv free) = lv.0

precedes_leads : (f : FuncRecord) (es : List (List ℕ)) → IsOrder f es → (i : ℕ) (b : BlockRecord) → slice_get f.blocks i ≡ Some b → (u v : ValueRecord) → Precedes f b u v → (p q : ℕ)
    → slice_get (nodes_of f) p ≡ Some (node_at i u) → slice_get (nodes_of f) q ≡ Some (node_at i v) → Leads es p q
precedes_leads f es order i b eb _ _ (right u v c) p q ep eq = order.whole p q i b u v eb ep eq c
precedes_leads f es order i b eb _ _ (onward t u v c rest) p q ep eq =
    let (r, er) = node_in f i b u eb (comes_second f b t u c) in
    leads_on es p r q (order.whole p r i b t u eb ep er c) (precedes_leads f es order i b eb u v rest r q er eq)

-- the place of a value of the function
place_in : (f : FuncRecord) → AreValues f → (b : BlockRecord) (v : ValueRecord) → HasValue f b v → (n p : ℕ) → n ≡ v.id → sole (value_ids f) n ≡ Some p
    → (i : ℕ) × (slice_get f.blocks i ≡ Some b) × (slice_get (nodes_of f) p ≡ Some (node_at i v))
place_in f values b v (hb, hv) n p number place =
    let (i, eb) = at_contains f.blocks b hb in
    let (q, eq) = node_in f i b v eb hv in
    let same : q ≡ p = same_Some q p (sym (node_alone f v.id q (node_at i v) (values.own b v (hb, hv)) eq refl) ∙ (ap (λ k. sole (value_ids f) k) (sym number) ∙ place)) in
    (i, eb, subst (λ (k : ℕ). slice_get (nodes_of f) k ≡ Some (node_at i v)) same eq)

-- what the search answers of it
pub round_found : (f : FuncRecord) → AreValues f → (es : List (List ℕ)) → IsOrder f es → (n p : ℕ) (v : ValueRecord) → n ≡ v.id → sole (value_ids f) n ≡ Some p → (back : Bool)
    → (back ≡ true) ↔ Leads es p p → (b : BlockRecord) → HasValue f b v → MatchBool back (Precedes f b v v) (¬ Precedes f b v v)
round_found f values es order n p v number place true is b has =
    let (i, eb, ep) = place_in f values b v has n p number place in
    order.sound p p i b v (node_at i v) eb ep ep (is.0 refl)
round_found f values es order n p v number place false is b has = λ round.
    let (i, eb, ep) = place_in f values b v has n p number place in
    false≢true (is.1 (precedes_leads f es order i b eb v v round p p ep ep))

pub no_round : (f : FuncRecord) → AreValues f → (es : List (List ℕ)) → IsOrder f es → (rs : List ℕ) → Settles es rs → (n p : ℕ) (v : ValueRecord) → n ≡ v.id → sole (value_ids f) n ≡ Some p
    → 0 < get_or rs p 0 → (b : BlockRecord) → HasValue f b v → ¬ Precedes f b v v
no_round f values es order rs up n p v number place ranked b has round =
    let (i, eb, ep) = place_in f values b v has n p number place in
    none_leads es rs up p ranked (precedes_leads f es order i b eb v v round p p ep ep)

pub is_placed : (f : FuncRecord) → AreValues f → (b : BlockRecord) (v : ValueRecord) → HasValue f b v → (n : ℕ) → n ≡ v.id → sole (value_ids f) n ≡ None → ⊥
is_placed f values b v has n number none =
    let (p, m, s, at, id) = node_of f v.id (values.own b v has) in
    none-some p (sym none ∙ (ap (λ k. sole (value_ids f) k) number ∙ s))

-- searches from the places behind one place
pub record Begun (es : List (List ℕ)) (a : ℕ) (starts : List ℕ) (i : ℕ) (ls : List (Option ℕ)) (xs : List ℕ) : Type 0 where
  pub size : length ls ≡ length es
  pub marks : Marks ls xs
  pub closed : IsClosed es a ls
  pub from : (p : ℕ) → IsMarked ls p → (k : ℕ) × k < i × k < length starts × Path es a (get_or starts k 0) p
  pub found : (k p : ℕ) → k < i → Path es a (get_or starts k 0) p → IsMarked ls p

pub begun_first : (es : List (List ℕ)) (a : ℕ) (starts : List ℕ) (n : ℕ) (ls : List (Option ℕ)) (xs : List ℕ) → n ≡ length es → ls ≡ replicate n None → Marks ls xs → Begun es a starts 0 ls xs
begun_first es a starts n ls xs same none marks = record {
  size = ap length none ∙ (length-replicate n None ∙ same);
  marks = marks;
  closed = subst (λ (ms : List (Option ℕ)). IsClosed es a ms) (sym none) (none_closed es a n);
  from = λ p (l, e). absurd (none-some l (sym (ap (λ ms. get_or ms p None) none ∙ nothing p) ∙ e));
  found = λ k p l. absurd (omega arith);
}
  where
    nothing : (p : ℕ) → get_or {A = Option ℕ} (replicate n None) p None ≡ None
    nothing p = ⊎_elim (λ (b : p < n). get_or-replicate n p None None b) (λ a. get_or_past (replicate n None) p None (rw length-replicate a)) (cases_lt p n)

pub begun_more : (es : List (List ℕ)) (a : ℕ) (starts : List ℕ) (i label : ℕ) (ls : List (Option ℕ)) (xs : List ℕ) (ms : List (Option ℕ)) (ys : List ℕ) → i < length starts → Begun es a starts i ls xs
    → Marks ms ys → IsClosed es a ms → Grows (Path es a (get_or starts i 0)) label ls xs ms ys
    → ((p : ℕ) → Path es a (get_or starts i 0) p → IsMarked ms p) → Begun es a starts (i + 1) ms ys
begun_more es a starts i label ls xs ms ys within s marks closed grows found = record {
  size = grows.size ∙ s.size;
  marks = marks;
  closed = closed;
  from = λ p (l, e). ⊎_elim
      (λ old. let (k, b, w, path) = s.from p old in (k, omega arith, w, path))
      (λ free. let (label_is, path) = grows.fresh p l free e in (i, omega arith, within, path))
      (marked_or ls p);
  found = λ k p b path. ⊎_elim
      (λ (below : k < i). marked_still (Path es a (get_or starts i 0)) grows p (s.found k p below path))
      (λ (above : i ≤ k). let last : k ≡ i = omega arith in found p (subst (λ (j : ℕ). Path es a (get_or starts j 0) p) last path))
      (cases_lt k i);
}

pub begun_all : (es : List (List ℕ)) (starts : List ℕ) (i : ℕ) (ls : List (Option ℕ)) (xs : List ℕ) (p : ℕ) → starts ≡ get_or es p [] → length starts ≤ i → Begun es (length es) starts i ls xs
    → IsMarked ls p ↔ Leads es p p
begun_all es starts i ls xs p behind over s = (to, from)
  where
    to : IsMarked ls p → Leads es p p
    to marked =
        let (k, b, w, path) = s.from p marked in
        (get_or starts k 0, subst (λ (us : List ℕ). Contains us (get_or starts k 0)) behind (Contains-get_or starts k 0 w), path_start es (length es) (get_or starts k 0) p path, path)

    from : Leads es p p → IsMarked ls p
    from (t, e, w, path) =
        let (k, b, at) = subst (λ (us : List ℕ). Contains us t) (sym behind) e in
        s.found k p (omega arith) (subst (λ (j : ℕ). Path es (length es) j p) (sym (get_or_default starts k 0 t b ∙ at)) path)

-- ranks
pub settles_more : (es : List (List ℕ)) (rs : List ℕ) (i : ℕ) → ((p q : ℕ) → p < i → IsEdge es p q → RisesTo rs p q) → (low : ℕ) → low ≡ get_or rs i 0 → (places : List ℕ)
    → places ≡ get_or es i [] → All (λ q. 0 < get_or rs q 0 → (0 < low × low < get_or rs q 0)) places → (p q : ℕ) → p < i + 1 → IsEdge es p q → RisesTo rs p q
settles_more es rs i before low is places behind above p q l e = ⊎_elim
    (λ (b : p < i). before p q b e)
    (λ (a : i ≤ p). λ ranked.
    let last : p ≡ i = omega arith in
    let edge : Contains places q = subst (λ (us : List ℕ). Contains us q) (sym behind) (subst (λ (j : ℕ). IsEdge es j q) last e) in
    let (first, up) = All-contains (λ (x : ℕ). 0 < get_or rs x 0 → (0 < low × low < get_or rs x 0)) places q above edge ranked in
    (omega (arith, first, is, ap (λ j. get_or rs j 0) last), omega (arith, up, is, ap (λ j. get_or rs j 0) last)))
    (cases_lt p i)

pub settles_all : (es : List (List ℕ)) (rs : List ℕ) (i : ℕ) → length es ≤ i → ((p q : ℕ) → p < i → IsEdge es p q → RisesTo rs p q) → Settles es rs
settles_all es rs i over before p q e = ⊎_elim
    (λ (b : p < i). before p q b e)
    (λ (a : i ≤ p). absurd (none_in q (subst (λ (us : List ℕ). Contains us q) (get_or_past es p [] (omega arith)) e)))
    (cases_lt p i)

pub settles_none : (es : List (List ℕ)) (rs : List ℕ) → rs ≡ [] → Settles es rs
settles_none es rs none p q e ranked = absurd (omega (arith, ranked, ap (λ us. get_or us q 0) none))

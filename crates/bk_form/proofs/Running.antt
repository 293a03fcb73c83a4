-- Runs of places: from each to the one before it, as far as there is one.
use Rattle.std.proofs.Common.{◌≡◌, ◌∙◌, sym, refl, ap, subst, ℕ, suc, ◌<◌, ◌≤◌, ◌↔◌, List, [], ◌∷◌, ◌++◌, length, get_or, Option, None, Some, ⊎_elim, arith}
use Rattle.std.specs.List.{Contains}
use Rattle.std.proofs.lemmas.Option.{none-some, same_Some}
use Rattle.bk_places.proofs.Elements.{none_in}
use Rattle.bk_places.specs.Search.{Path, here, onward, Reverses}
use Rattle.bk_form.specs.Chains.{IsRun}
use Rattle.bk_form.proofs.Members.{first_in, later_in, first_or_later, last_in, same_end}

before_same : (bs : List (Option ℕ)) (x q : ℕ) (o : Option ℕ) → x ≡ q → get_or bs x None ≡ o → get_or bs q None ≡ o
before_same bs x q o same e = subst (λ (k : ℕ). get_or bs k None ≡ o) same e

-- what comes before a place of the run stands behind its head
pub after_in : (bs : List (Option ℕ)) (x : ℕ) (ms : List ℕ) → IsRun bs (x ∷ ms) → (q p : ℕ) → Contains (x ∷ ms) q → get_or bs q None ≡ Some p → Contains ms p
after_in bs x [] r q p c e = ⊎_elim
    (λ (same : x ≡ q). absurd (none-some p (sym (before_same bs x q None same r) ∙ e)))
    (λ h. absurd (none_in q h))
    (first_or_later x [] q c)
after_in bs x (y ∷ ms) (at, rest) q p c e = ⊎_elim
    (λ (same : x ≡ q). subst (λ (k : ℕ). Contains (y ∷ ms) k) (same_Some y p (sym (before_same bs x q (Some y) same at) ∙ e)) (first_in y ms))
    (λ later. later_in y ms p (after_in bs y ms rest q p later e))
    (first_or_later x (y ∷ ms) q c)

-- and each place behind the head is the one before some other
pub before_in : (bs : List (Option ℕ)) (x : ℕ) (ms : List ℕ) → IsRun bs (x ∷ ms) → (p : ℕ) → Contains ms p → (q : ℕ) × Contains (x ∷ ms) q × (get_or bs q None ≡ Some p)
before_in bs x [] r p c = absurd (none_in p c)
before_in bs x (y ∷ ms) (at, rest) p c = ⊎_elim
    (λ (same : y ≡ p). (x, first_in x (y ∷ ms), at ∙ ap Some same))
    (λ later. let (q, m, e) = before_in bs y ms rest p later in (q, later_in x (y ∷ ms) q m, e))
    (first_or_later y ms p c)

-- a run is known by its head
same_run : (bs : List (Option ℕ)) (x : ℕ) (ms ns : List ℕ) → IsRun bs (x ∷ ms) → IsRun bs (x ∷ ns) → ms ≡ ns
same_run bs x [] [] r s = refl
same_run bs x [] (q ∷ ns) r (at, s) = absurd (none-some q (sym r ∙ at))
same_run bs x (p ∷ ms) [] (at, r) s = absurd (none-some p (sym s ∙ at))
same_run bs x (p ∷ ms) (q ∷ ns) (at, r) (there, s) =
    let same : p ≡ q = same_Some p q (sym at ∙ there) in
    let rest : ms ≡ ns = same_run bs q ms ns (subst (λ (k : ℕ). IsRun bs (k ∷ ms)) same r) s in
    ap (λ k. k ∷ ms) same ∙ ap (λ us. q ∷ us) rest

run_from : (bs : List (Option ℕ)) (x : ℕ) (ms : List ℕ) → IsRun bs (x ∷ ms) → (q : ℕ) → Contains (x ∷ ms) q → (ns : List ℕ) × IsRun bs (q ∷ ns) × length ns ≤ length ms
run_from bs x [] r q c = ⊎_elim
    (λ (same : x ≡ q). ([], before_same bs x q None same r, omega arith))
    (λ h. absurd (none_in q h))
    (first_or_later x [] q c)
run_from bs x (y ∷ ms) (at, rest) q c = ⊎_elim
    (λ (same : x ≡ q). (y ∷ ms, (before_same bs x q (Some y) same at, rest), omega arith))
    (λ later. let (ns, r, l) = run_from bs y ms rest q later in (ns, r, omega arith))
    (first_or_later x (y ∷ ms) q c)

-- no place stands in a run twice
pub not_again : (bs : List (Option ℕ)) (x : ℕ) (ms : List ℕ) → IsRun bs (x ∷ ms) → Contains ms x → ⊥
not_again bs x [] r c = none_in x c
not_again bs x (y ∷ ms) (at, rest) c =
    let (ns, r, l) = run_from bs y ms rest x c in
    let same : y ∷ ms ≡ ns = same_run bs x (y ∷ ms) ns (at, rest) r in
    let long : suc (length ms) ≡ length ns = ap length same in
    absurd (omega arith)

-- two places of a run do not have the same place before them
pub one_before : (bs : List (Option ℕ)) (x : ℕ) (ms : List ℕ) → IsRun bs (x ∷ ms) → (p q r : ℕ) → Contains (x ∷ ms) p → Contains (x ∷ ms) q → get_or bs p None ≡ Some r → get_or bs q None ≡ Some r → p ≡ q
one_before bs x [] run p q r cp cq ep eq = ⊎_elim
    (λ (same : x ≡ p). absurd (none-some r (sym (before_same bs x p None same run) ∙ ep)))
    (λ h. absurd (none_in p h))
    (first_or_later x [] p cp)
one_before bs x (y ∷ ms) (at, rest) p q r cp cq ep eq = ⊎_elim
    (λ (first : x ≡ p). ⊎_elim
    (λ (also : x ≡ q). sym first ∙ also)
    (λ later. absurd (twice p q first ep later eq))
    (first_or_later x (y ∷ ms) q cq))
    (λ behind. ⊎_elim
    (λ (also : x ≡ q). absurd (twice q p also eq behind ep))
    (λ later. one_before bs y ms rest p q r behind later ep eq)
    (first_or_later x (y ∷ ms) q cq))
    (first_or_later x (y ∷ ms) p cp)
  where
    twice : (s t : ℕ) → x ≡ s → get_or bs s None ≡ Some r → Contains (y ∷ ms) t → get_or bs t None ≡ Some r → ⊥
    twice s t same e later g =
        let is : y ≡ r = same_Some y r (sym (before_same bs x s (Some y) same at) ∙ e) in
        not_again bs y ms rest (subst (λ (k : ℕ). Contains ms k) (sym is) (after_in bs y ms rest t r later g))

-- the last place of a run, from which a path leads to each
pub run_end : (bs : List (Option ℕ)) (es : List (List ℕ)) → Reverses bs es → (x : ℕ) (ms : List ℕ) → IsRun bs (x ∷ ms) → ((q : ℕ) → Contains (x ∷ ms) q → q < length es)
    → (e : ℕ) × (ns : List ℕ) × (x ∷ ms ≡ ns ++ e ∷ []) × (get_or bs e None ≡ None) × Contains (x ∷ ms) e × ((q : ℕ) → Contains (x ∷ ms) q → Path es (length es) e q)
run_end bs es rev x [] r within = (
  x,
  [],
  refl,
  r,
  first_in x [],
  λ q c. ⊎_elim (λ (same : x ≡ q). subst (λ (k : ℕ). Path es (length es) x k) same (here (within x (first_in x [])))) (λ h. absurd (none_in q h)) (first_or_later x [] q c),
)
run_end bs es rev x (y ∷ ms) (at, rest) within =
    let (e, ns, same, none, inside, path) = run_end bs es rev y ms rest (λ q c. within q (later_in x (y ∷ ms) q c)) in
    let low : y < length es = within y (later_in x (y ∷ ms) y (first_in y ms)) in
    let first : Path es (length es) e x =
    onward y x (path y (first_in y ms)) (λ a. absurd (omega arith)) ((rev.edge y x).1 (low, at)) (within x (first_in x (y ∷ ms))) in (
      e,
      x ∷ ns,
      ap (λ us. x ∷ us) same,
      none,
      later_in x (y ∷ ms) e inside,
      λ q c. ⊎_elim (λ (is : x ≡ q). subst (λ (k : ℕ). Path es (length es) e k) is first) (λ later. path q later) (first_or_later x (y ∷ ms) q c),
    )

-- a path to a place is a run from it
pub path_run : (bs : List (Option ℕ)) (es : List (List ℕ)) → Reverses bs es → (a e p : ℕ) → Path es a e p → get_or bs e None ≡ None → (ms : List ℕ) × (ns : List ℕ) × IsRun bs (p ∷ ms) × (p ∷ ms ≡ ns ++ e ∷ [])
path_run bs es rev a e _ (here within) none = ([], [], none, refl)
path_run bs es rev a e _ (onward p q path apart edge within) none =
    let (ms, ns, run, same) = path_run bs es rev a e p path none in
    (p ∷ ms, q ∷ ns, (((rev.edge p q).0 edge).1, run), ap (λ us. q ∷ us) same)

-- the starts of two paths to one place are one
pub one_start : (bs : List (Option ℕ)) (es : List (List ℕ)) → Reverses bs es → (a r s p : ℕ) → get_or bs r None ≡ None → get_or bs s None ≡ None → Path es a r p → Path es a s p → r ≡ s
one_start bs es rev a r s p first also path other =
    let (ms, ns, run, same) = path_run bs es rev a r p path first in
    let (us, vs, more, is) = path_run bs es rev a s p other also in
    let one : p ∷ ms ≡ p ∷ us = ap (λ ks. p ∷ ks) (same_run bs p ms us run more) in
    same_end ns vs r s (sym same ∙ (one ∙ is))

-- the places of a fact, which go along with what comes before them
pub record Closes (bs : List (Option ℕ)) (S : ℕ → Type 0) : Type 0 where
  pub down : (q p : ℕ) → S q → get_or bs q None ≡ Some p → S p

pub run_all : (bs : List (Option ℕ)) (S : ℕ → Type 0) → Closes bs S → (x : ℕ) (ms : List ℕ) → IsRun bs (x ∷ ms) → S x → (q : ℕ) → Contains (x ∷ ms) q → S q
run_all bs S closed x [] r s q c = ⊎_elim (λ (same : x ≡ q). subst S same s) (λ h. absurd (none_in q h)) (first_or_later x [] q c)
run_all bs S closed x (y ∷ ms) (at, rest) s q c = ⊎_elim
    (λ (same : x ≡ q). subst S same s)
    (λ later. run_all bs S closed y ms rest (closed.down x y s at) q later)
    (first_or_later x (y ∷ ms) q c)

-- where no two places have the same one before them, a run from a place that comes before none has all that its end leads to
pub run_whole : (bs : List (Option ℕ)) (es : List (List ℕ)) → Reverses bs es → (S : ℕ → Type 0) → Closes bs S → (h : ℕ) (ms ns : List ℕ) (e : ℕ) → IsRun bs (h ∷ ms) → h ∷ ms ≡ ns ++ e ∷ [] → S h
    → ((q : ℕ) → S q → get_or bs q None ≡ Some h → ⊥) → ((p q r : ℕ) → S p → S q → get_or bs p None ≡ Some r → get_or bs q None ≡ Some r → p ≡ q)
    → (a p : ℕ) → Path es a e p → S p → Contains (h ∷ ms) p
run_whole bs es rev S closed h ms ns e run same head free one a _ (here within) s = subst (λ (us : List ℕ). Contains us e) (sym same) (last_in ns e)
run_whole bs es rev S closed h ms ns e run same head free one a _ (onward p q path apart edge within) s =
    let at : get_or bs q None ≡ Some p = ((rev.edge p q).0 edge).1 in
    let inside : Contains (h ∷ ms) p = run_whole bs es rev S closed h ms ns e run same head free one a p path (closed.down q p s at) in
    ⊎_elim
    (λ (is : h ≡ p). absurd (free q s (at ∙ ap Some (sym is))))
    (λ later.
    let (x, m, ex) = before_in bs h ms run p later in
    subst (λ (k : ℕ). Contains (h ∷ ms) k) (one x q p (run_all bs S closed h ms run head x m) s ex at) m)
    (first_or_later h ms p inside)

-- two runs of the same places are one
pub same_head : (bs : List (Option ℕ)) (S : ℕ → Type 0) (x y : ℕ) (ms ns : List ℕ) → IsRun bs (x ∷ ms) → IsRun bs (y ∷ ns) → ((p : ℕ) → Contains (x ∷ ms) p ↔ S p) → ((p : ℕ) → Contains (y ∷ ns) p ↔ S p) → x ≡ y
same_head bs S x y ms ns r s whole also = ⊎_elim
    (λ (same : x ≡ y). same)
    (λ later.
    let (q, m, e) = before_in bs x ms r y later in
    absurd (not_again bs y ns s (after_in bs y ns s q y ((also q).1 ((whole q).0 m)) e)))
    (first_or_later x ms y ((whole y).1 ((also y).0 (first_in y ns))))

pub same_list : (bs : List (Option ℕ)) (S : ℕ → Type 0) (x y : ℕ) (ms ns : List ℕ) → IsRun bs (x ∷ ms) → IsRun bs (y ∷ ns) → ((p : ℕ) → Contains (x ∷ ms) p ↔ S p) → ((p : ℕ) → Contains (y ∷ ns) p ↔ S p) → x ∷ ms ≡ y ∷ ns
same_list bs S x y ms ns r s whole also =
    let same = same_head bs S x y ms ns r s whole also in
    ap (λ k. k ∷ ms) same ∙ ap (λ us. y ∷ us) (same_run bs y ms ns (subst (λ (k : ℕ). IsRun bs (k ∷ ms)) same r) s)

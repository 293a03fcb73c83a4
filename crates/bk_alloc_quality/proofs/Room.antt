-- Where few values are live a register is open, and what is put there drives nothing away.
use Rattle.std.proofs.Common.{◌≡◌, ℕ, zero, suc, ◌<◌, ◌≤◌, refl, ap, sym, ◌∙◌, subst, arith, ◌⊎◌, inl, inr, List, [], ◌∷◌, length, Option, Some, None, Bool, true, false, cond, ◌==◌, eq-eqb, eqb-true, get_or, get_or-set_other}
use Rattle.std.specs.Prelude.{◌||◌, filter}
use Rattle.std.specs.List.{Contains}
use Rattle.std.proofs.lemmas.Bool.{cases_lt, or_cases, or_right}
use Rattle.std.proofs.lemmas.Cmp.{nat_eq_equiv}
use Rattle.std.proofs.lemmas.List.Sums.{passes_at_first, fails_before_first}
use Rattle.std.proofs.lemmas.Map.Views.{list_any-from_Contains}
use Rattle.std.proofs.Math.ListN.{get_or-map}
use Rattle.bk_alloc.specs.Registers.{Registers, Uses, register_of, holds, is_open, is_kept, least_open, put, freed, used_as, while_used}
use Rattle.bk_alloc_laws.proofs.Reach.{OneEach, too_few, held}
use Rattle.bk_alloc_laws.proofs.Holding.{register_has}
use Rattle.bk_alloc_quality.specs.Pressure.{is_used, IsUsed, live}

-- membership

pub kept : (xs : List ℕ) (v : ℕ) → Contains xs v → is_kept xs v ≡ true
kept xs v c = list_any-from_Contains nat_eq_equiv v xs c

kept_head : (w v : ℕ) (f : List ℕ) → v ≡ w → is_kept (w ∷ f) v ≡ true
kept_head w v f a = ap (λ (c : Bool). c || is_kept f v) (eq-eqb v w a)

kept_by : (p : ℕ → Bool) (w v : ℕ) (f : List ℕ) → (v ≡ w) ⊎ (is_kept f v ≡ true) → p v ≡ true → (b : Bool) → p w ≡ b → is_kept (cond b (w ∷ f) f) v ≡ true
kept_by p w v f (inl a) e true h = kept_head w v f a
kept_by p w v f (inl a) e false h = let q : p v ≡ p w = ap p a in absurd cc
kept_by p w v f (inr r) e true h = or_right (v == w) (is_kept f v) r
kept_by p w v f (inr r) e false h = r

kept_filter : (p : ℕ → Bool) (ws : List ℕ) (v : ℕ) → is_kept ws v ≡ true → p v ≡ true → is_kept (filter p ws) v ≡ true
kept_filter p [] v k e = absurd cc
kept_filter p (w ∷ ws) v k e = go (or_cases (v == w) (is_kept ws v) k) (λ a. kept_filter p ws v a e)
  where
    go : ((v == w) ≡ true) ⊎ (is_kept ws v ≡ true) → (is_kept ws v ≡ true → is_kept (filter p ws) v ≡ true) → is_kept (filter p (w ∷ ws)) v ≡ true
    go (inl a) r = kept_by p w v (filter p ws) (inl (eqb-true v w a)) e (p w) refl
    go (inr a) r = kept_by p w v (filter p ws) (inr (r a)) e (p w) refl

pub is_among : (words also : List ℕ) (n : Uses) (v : ℕ) → Contains words v → (is_used (n v) || is_kept also v) ≡ true → is_kept (live words n also) v ≡ true
is_among words also n v c e = kept_filter (λ u. is_used (n u) || is_kept also u) words v (kept words v c) e

-- a register is open

not_open : (o : Option ℕ) → is_open o ≡ false → (v : ℕ) × (o ≡ Some v)
not_open None e = absurd cc
not_open (Some v) e = (v, refl)

one_more : (rs : Registers) (x : ℕ) → OneEach rs → ((q : ℕ) → get_or rs q None ≡ Some x → ⊥) → OneEach (Some x ∷ rs)
one_more rs x o n zero zero v a b = refl
one_more rs x o n zero (suc r) v a b = absurd (n r (b ∙ sym a))
one_more rs x o n (suc q) zero v a b = absurd (n q (a ∙ sym b))
one_more rs x o n (suc q) (suc r) v a b = ap suc (o q r v a b)

all_hold : (keep : List ℕ) (rs : Registers) (x : ℕ) → ((q : ℕ) → q < length rs → (v : ℕ) × (get_or rs q None ≡ Some v) × (is_kept keep v ≡ true)) → is_kept keep x ≡ true
    → (q : ℕ) → q < length (Some x ∷ rs) → (v : ℕ) × (get_or (Some x ∷ rs) q None ≡ Some v) × (is_kept keep v ≡ true)
all_hold keep rs x h k zero l = (x, refl, k)
all_hold keep rs x h k (suc q) l = h q (omega arith)

room_by : (keep : List ℕ) (rs : Registers) (x : ℕ) → OneEach rs → ((q : ℕ) → get_or rs q None ≡ Some x → ⊥) → ((q v : ℕ) → get_or rs q None ≡ Some v → is_kept keep v ≡ true)
    → is_kept keep x ≡ true → length keep ≤ length rs → (least_open rs < length rs) ⊎ (length rs ≤ least_open rs) → least_open rs < length rs
room_by keep rs x o n h k few (inl l) = l
room_by keep rs x o n h k few (inr l) =
    let full : (q : ℕ) → q < length rs → (v : ℕ) × (get_or rs q None ≡ Some v) × (is_kept keep v ≡ true) =
    λ q m. (let y = not_open (get_or rs q None) (fails_before_first is_open rs q None (omega arith)) in (y.0, y.1, h q y.0 y.1)) in
    let t = too_few keep (Some x ∷ rs) (all_hold keep rs x full k) (one_more rs x o n) in
    absurd (omega (arith, t))

-- the registers hold live words, and x is none of them: with x they are at most as many as the registers
pub room : (words also : List ℕ) (n : Uses) (rs : Registers) (x : ℕ) → OneEach rs → ((q : ℕ) → get_or rs q None ≡ Some x → ⊥)
    → ((q v : ℕ) → get_or rs q None ≡ Some v → Contains words v × ((is_used (n v) || is_kept also v) ≡ true)) → Contains words x → is_kept also x ≡ true
    → length (live words n also) ≤ length rs → least_open rs < length rs
room words also n rs x o a h c k few =
    room_by (live words n also) rs x o a (λ q v e. is_among words also n v (h q v e).0 (h q v e).1)
    (is_among words also n x c (or_right (is_used (n x)) (is_kept also x) k)) few (cases_lt (least_open rs) (length rs))

pub least_is_open : (rs : Registers) → least_open rs < length rs → is_open (get_or rs (least_open rs) None) ≡ true
least_is_open rs l = passes_at_first is_open rs None l

-- what is put into an open register drives nothing away

open_none : (o : Option ℕ) (u : ℕ) → is_open o ≡ true → o ≡ Some u → ⊥
open_none None u e f = absurd cc
open_none (Some v) u e f = absurd cc

apart : (rs : Registers) (r q v : ℕ) → is_open (get_or rs r None) ≡ true → get_or rs q None ≡ Some v → q ≡ r → ⊥
apart rs r q v e g p = open_none (get_or rs r None) v e (subst (λ (k : ℕ). get_or rs k None ≡ Some v) p g)

pub put_keeps : (rs : Registers) (r x v : ℕ) → is_open (get_or rs r None) ≡ true → holds rs v ≡ true → holds (put rs r x) v ≡ true
put_keeps rs r x v e h =
    let q = register_of rs v in
    let g : get_or rs q None ≡ Some v = register_has rs v h in
    held (put rs r x) v q (get_or-set_other rs r q (Some x) None (apart rs r q v e g) ∙ g)

-- registers become free

used_yes : (o : Option ℕ) (v : ℕ) → is_used o ≡ true → used_as o v ≡ Some v
used_yes None v e = absurd cc
used_yes (Some m) v e = refl

pub freed_keeps : (n : Uses) (rs : Registers) (v : ℕ) → IsUsed n v → holds rs v ≡ true → holds (freed n rs) v ≡ true
freed_keeps n rs v u h =
    let q = register_of rs v in
    let g : get_or rs q None ≡ Some v = register_has rs v h in
    held (freed n rs) v q (get_or-map (while_used n) rs q None ∙ (ap (while_used n) g ∙ used_yes (n v) v u))

as_used : (o : Option ℕ) (v u : ℕ) → used_as o v ≡ Some u → (is_used o ≡ true) × (v ≡ u)
as_used None v u e = absurd cc
as_used (Some m) v u e = (refl, (let p : Some v ≡ Some u = e in cc))

used_from : (n : Uses) (o : Option ℕ) (u : ℕ) → while_used n o ≡ Some u → is_used (n u) ≡ true
used_from n None u e = absurd cc
used_from n (Some v) u e = let p = as_used (n v) v u e in subst (λ (k : ℕ). is_used (n k) ≡ true) p.1 p.0

pub freed_used : (n : Uses) (rs : Registers) (q v : ℕ) → get_or (freed n rs) q None ≡ Some v → IsUsed n v
freed_used n rs q v e = used_from n (get_or rs q None) v (sym (get_or-map (while_used n) rs q None) ∙ e)

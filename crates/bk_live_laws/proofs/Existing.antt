-- There are next uses at all places.
use Rattle.std.proofs.Common.{◌≡◌, ◌∙◌, sym, refl, ap, subst, ℕ, zero, suc, ◌+◌, ◌-◌, ◌<◌, ◌≤◌, ◌⊎◌, Bool, true, false, List, [], ◌∷◌, length, Option, None, Some, inl, inr, ⊎_elim, arith}
use Rattle.std.specs.List.{Contains, slice_get}
use Rattle.std.proofs.lemmas.Bool.{cases_eq, cases_lt, false≢true}
use Rattle.std.proofs.lemmas.Option.{none-some, same_Some, slice_get_within}
use Rattle.bk_ops.specs.declared.family.Family.{Family}
use Rattle.bk_ops.specs.declared.family.Family.TheVariants.{Phi}
use Rattle.bk_func.specs.Records.{BlockRecord, FuncRecord, ValueRecord}
use Rattle.bk_func.specs.Form.Text.{IsPhi}
use Rattle.bk_live.specs.Live.{AllNextUses, HasSuccessor, IsEnd, IsEntry, IsLive, IsOrdered, IsPlaced, IsSent, IsUsedAt, IsUsedBehind, Leads, NextUseIs, Takes, cost, here, is_phi, leave, order_at, pass}
use Rattle.bk_live.specs.Seen.{IsFree}
use Rattle.bk_live.proofs.Alone.{at_some, block_alone}
use Rattle.bk_live.proofs.Spreading.{leads_within}
use Rattle.bk_live.proofs.Walking.{comes, ends_at, leaves_by, used_within}

-- one or the other is known
abbrev pub Decided : Type 0 → Type 0
Decided P = P ⊎ ¬ P

both : {P Q : Type 0} → Decided P → Decided Q → Decided (P × Q)
both {P} {Q} (inl p) (inl q) = inl (p, q)
both {P} {Q} (inl p) (inr none) = inr (λ (x, y). none y)
both {P} {Q} (inr none) q = inr (λ (x, y). none x)

either : {P Q : Type 0} → Decided P → Decided Q → Decided (P ⊎ Q)
either {P} {Q} (inl p) q = inl (inl p)
either {P} {Q} (inr none) (inl q) = inl (inr q)
either {P} {Q} (inr none) (inr nor) = inr (λ h. ⊎_elim none nor h)

neither : {P : Type 0} → Decided P → Decided (¬ P)
neither {P} (inl p) = inr (λ none. none p)
neither {P} (inr none) = inl none

same_as : {P Q : Type 0} → (P → Q) → (Q → P) → Decided P → Decided Q
same_as {P} {Q} to back (inl p) = inl (to p)
same_as {P} {Q} to back (inr none) = inr (λ q. none (back q))

-- one of the numbers below n, one of the elements of a list
below : (P : ℕ → Type 0) → ((k : ℕ) → Decided (P k)) → (n : ℕ) → Decided ((k : ℕ) × k < n × P k)
below P d zero = inr (λ (k, l, p). absurd (omega arith))
below P d (suc n) = go (d n) (below P d n)
  where
    go : Decided (P n) → Decided ((k : ℕ) × k < n × P k) → Decided ((k : ℕ) × k < suc n × P k)
    go (inl p) rest = inl (n, omega arith, p)
    go (inr none) (inl (k, l, p)) = inl (k, omega arith, p)
    go (inr none) (inr nor) = inr (λ (k, l, p). ⊎_elim
        (λ (low : k < n). nor (k, low, p))
        (λ (high : n ≤ k). let same : k ≡ n = omega arith in none (subst P same p))
        (cases_lt k n))

some_in : {A : Type 0} (P : A → Type 0) → ((x : A) → Decided (P x)) → (xs : List A) → Decided ((x : A) × Contains xs x × P x)
some_in {A} P d [] = inr (λ (x, (k, l, e), p). absurd (omega arith))
some_in {A} P d (y ∷ xs) = go (d y) (some_in P d xs)
  where
    go : Decided (P y) → Decided ((x : A) × Contains xs x × P x) → Decided ((x : A) × Contains (y ∷ xs) x × P x)
    go (inl p) rest = inl (y, (0, omega arith, refl), p)
    go (inr none) (inl (x, (k, l, e), p)) = inl (x, (suc k, omega arith, e), p)
    go (inr none) (inr nor) = inr later
      where
        later : (x : A) × Contains (y ∷ xs) x × P x → ⊥
        later (x, (zero, l, e), p) = none (subst P (sym e) p)
        later (x, (suc k, l, e), p) = nor (x, (k, omega arith, e), p)

-- the least number of which something holds
least : (P : ℕ → Type 0) → ((k : ℕ) → Decided (P k)) → (room m : ℕ) → m < room → P m → (k : ℕ) × P k × ((l : ℕ) → P l → k ≤ l)
least P d zero m low p = absurd (omega arith)
least P d (suc room) m low p = go (below P d m) (λ k l q. least P d room k (omega arith) q)
  where
    go : Decided ((k : ℕ) × k < m × P k) → ((k : ℕ) → k < m → P k → (k : ℕ) × P k × ((l : ℕ) → P l → k ≤ l)) → (k : ℕ) × P k × ((l : ℕ) → P l → k ≤ l)
    go (inl (k, l, q)) less = less k l q
    go (inr none) less = (m, p, λ l q. ⊎_elim (λ (low : l < m). absurd (none (l, low, q))) (λ (more : m ≤ l). more) (cases_lt l m))

-- plain facts
number_or : (m n : ℕ) → Decided (m ≡ n)
number_or m n = ⊎_elim (λ same. inl same) (λ apart. inr apart) (cases_eq m n)

le_or : (m n : ℕ) → Decided (m ≤ n)
le_or m n = ⊎_elim (λ (high : n < m). inr (λ low. absurd (omega arith))) (λ (low : m ≤ n). inl low) (cases_lt n m)

some_or : (o : Option ℕ) (n : ℕ) → Decided (o ≡ Some n)
some_or None n = inr (λ e. none-some n e)
some_or (Some m) n = same_as (λ e. ap Some e) (λ e. same_Some m n e) (number_or m n)

contains_or : (xs : List ℕ) (n : ℕ) → Decided (Contains xs n)
contains_or xs n = same_as (λ (x, c, e). subst (λ (m : ℕ). Contains xs m) e c) (λ c. (n, c, refl)) (some_in (λ x. x ≡ n) (λ x. number_or x n) xs)

phi_is : (f : Family) → is_phi f ≡ true → f ≡ Phi
phi_is Phi e = refl
phi_is _ e = absurd (false≢true e)

phi_or : (v : ValueRecord) → Decided (IsPhi v)
phi_or v = go (is_phi v.op.family) refl
  where
    go : (b : Bool) → is_phi v.op.family ≡ b → Decided (IsPhi v)
    go true e = inl (phi_is v.op.family e)
    go false e = inr (λ phi. false≢true (sym e ∙ ap is_phi phi))

-- whether something is used at a place
takes_or : (f : FuncRecord) (x n : ℕ) → Decided (Takes f x n)
takes_or f x n =
    same_as (λ (b, hb, (v, hv, (id, (plain, arg)))). (b, v, (hb, hv), id, plain, arg)) (λ (b, v, (hb, hv), id, plain, arg). (b, hb, (v, hv, (id, (plain, arg)))))
    (some_in (λ (b : BlockRecord). (v : ValueRecord) × Contains b.values v × ((v.id ≡ x) × (¬ IsPhi v × Contains v.args n)))
    (λ b. some_in (λ (v : ValueRecord). (v.id ≡ x) × (¬ IsPhi v × Contains v.args n)) (λ v. both (number_or v.id x) (both (neither (phi_or v)) (contains_or v.args n))) b.values) f.blocks)

sent_or : (f : FuncRecord) (b : BlockRecord) (n : ℕ) → Decided (IsSent f b n)
sent_or f b n =
    same_as (λ (s, hs, (v, hv, (phi, (j, l, (pred, arg))))). (s, v, j, (hs, hv), phi, pred, arg))
    (λ (s, v, j, (hs, hv), phi, pred, arg). (s, hs, (v, hv, (phi, (j, slice_get_within v.args j n arg, (pred, arg))))))
    (some_in (λ (s : BlockRecord). (v : ValueRecord) × Contains s.values v × (IsPhi v × ((j : ℕ) × j < length v.args × ((slice_get s.preds j ≡ Some b.id) × (slice_get v.args j ≡ Some n)))))
    (λ s. some_in (λ (v : ValueRecord). IsPhi v × ((j : ℕ) × j < length v.args × ((slice_get s.preds j ≡ Some b.id) × (slice_get v.args j ≡ Some n))))
    (λ v. both (phi_or v) (below (λ j. (slice_get s.preds j ≡ Some b.id) × (slice_get v.args j ≡ Some n)) (λ j. both (some_or (slice_get s.preds j) b.id) (some_or (slice_get v.args j) n)) (length v.args))) s.values)
    f.blocks)

behind_or : (f : FuncRecord) (i n : ℕ) → Decided (IsUsedBehind f i n)
behind_or f i n = go (slice_get f.blocks i) refl
  where
    go : (o : Option BlockRecord) → slice_get f.blocks i ≡ o → Decided (IsUsedBehind f i n)
    go None e = inr (λ (b, at, how). none-some b (sym e ∙ at))
    go (Some b) e =
        same_as (λ how. (b, e, how))
        (λ (c, at, how). subst (λ (d : BlockRecord). (d.control ≡ Some n) ⊎ IsSent f d n) (same_Some c b (sym at ∙ e)) how)
        (either (some_or b.control n) (sent_or f b n))

used_or : (f : FuncRecord) (os : List (List ℕ)) (n i k : ℕ) → Decided (IsUsedAt f os n i k)
used_or f os n i k = either (entry (slice_get (order_at os i) k) refl) (both (number_or k (length (order_at os i))) (behind_or f i n))
  where
    entry : (o : Option ℕ) → slice_get (order_at os i) k ≡ o → Decided ((x : ℕ) × IsEntry os i k x × Takes f x n)
    entry None e = inr (λ (x, at, takes). none-some x (sym e ∙ at))
    entry (Some x) e = same_as (λ takes. (x, e, takes)) (λ (y, at, takes). subst (λ (z : ℕ). Takes f z n) (same_Some y x (sym at ∙ e)) takes) (takes_or f x n)

successor_or : (f : FuncRecord) (i j : ℕ) → Decided (HasSuccessor f i j)
successor_or f i j = go (slice_get f.blocks i) refl (slice_get f.blocks j) refl
  where
    go : (o : Option BlockRecord) → slice_get f.blocks i ≡ o → (p : Option BlockRecord) → slice_get f.blocks j ≡ p → Decided (HasSuccessor f i j)
    go None e p g = inr (λ (a, b, at, ab, c). none-some a (sym e ∙ at))
    go (Some a) e None g = inr (λ (d, b, at, ab, c). none-some b (sym g ∙ ab))
    go (Some a) e (Some b) g =
        same_as (λ c. (a, b, e, g, c))
        (λ (d, h, at, ah, c).
        subst (λ (x : BlockRecord). Contains x.succs b.id) (same_Some d a (sym at ∙ e)) (subst (λ (x : BlockRecord). Contains d.succs x.id) (same_Some h b (sym ah ∙ g)) c))
        (contains_or a.succs b.id)

free_or : (os : List (List ℕ)) (n i k l : ℕ) → Decided (IsFree os n i k l)
free_or os n i k l =
    same_as (λ none j low high e. none (j, high, (low, e))) (λ free (j, high, (low, e)). free j low high e)
    (neither (below (λ j. k ≤ j × IsEntry os i j n) (λ j. both (le_or k j) (some_or (slice_get (order_at os i) j) n)) l))

-- what a walk does first
abbrev pub Steps : FuncRecord → List (List ℕ) → ℕ → ℕ → ℕ → ℕ → Type 0
Steps f os n i k m =
    (IsUsedAt f os n i k × (m ≡ 1))
    ⊎ ((x l : ℕ) × IsEntry os i k x × ¬ (x ≡ n) × Leads f os n i (k + 1) l × (m ≡ cost f x + l))
    ⊎ ((j l : ℕ) × IsEnd os i k × HasSuccessor f i j × Leads f os n j 0 l × (m ≡ 1 + l))

steps : (f : FuncRecord) (os : List (List ℕ)) (n i k m : ℕ) → Leads f os n i k m → Steps f os n i k m
steps f os n _ _ _ (here i k used) = inl (used, refl)
steps f os n _ _ _ (pass i k x m entry apart walk) = inr (inl (x, m, entry, apart, walk, refl))
steps f os n _ _ _ (leave i j k m end next walk) = inr (inr (j, m, end, next, walk, refl))

from_steps : (f : FuncRecord) (os : List (List ℕ)) (n i k m : ℕ) → Steps f os n i k m → Leads f os n i k m
from_steps f os n i k m (inl (used, one)) = subst (λ (w : ℕ). Leads f os n i k w) (sym one) (here i k used)
from_steps f os n i k m (inr (inl (x, l, entry, apart, walk, sum))) = subst (λ (w : ℕ). Leads f os n i k w) (sym sum) (pass i k x l entry apart walk)
from_steps f os n i k m (inr (inr (j, l, end, next, walk, sum))) = subst (λ (w : ℕ). Leads f os n i k w) (sym sum) (leave i j k l end next walk)

-- whether a walk of m leads from a place
module _ (f : FuncRecord) (os : List (List ℕ)) (n : ℕ) (size : length os ≡ length f.blocks) where
  -- at the end of a block, where it is known of shorter walks from the starts of blocks
  from_end : (i k m : ℕ) → k ≡ length (order_at os i) → ((p j : ℕ) → p < m → Decided (Leads f os n j 0 p)) → Decided (Leads f os n i k m)
  from_end i k m end shorter =
      same_as (from_steps f os n i k m) (steps f os n i k m) (either (both (used_or f os n i k) (number_or m 1)) (either (inr passes) (leaves m refl)))
    where
      passes : (x l : ℕ) × IsEntry os i k x × ¬ (x ≡ n) × Leads f os n i (k + 1) l × (m ≡ cost f x + l) → ⊥
      passes (x, l, entry, apart, walk, sum) = let inside : k < length (order_at os i) = slice_get_within (order_at os i) k x entry in absurd (omega arith)

      leaves : (w : ℕ) → m ≡ w → Decided ((j l : ℕ) × IsEnd os i k × HasSuccessor f i j × Leads f os n j 0 l × (m ≡ 1 + l))
      leaves zero same = inr (λ (j, l, ends, next, walk, sum). absurd (omega arith))
      leaves (suc p) same =
          same_as (λ (j, b, (next, walk)). (j, p, end, next, walk, omega arith))
          (λ (j, l, ends, next, walk, sum).
          let one : l ≡ p = omega arith in
          (j, leads_within f os n j 0 l size walk, (next, subst (λ (w : ℕ). Leads f os n j 0 w) one walk)))
          (below (λ j. HasSuccessor f i j × Leads f os n j 0 p) (λ j. both (successor_or f i j) (shorter p j (omega arith))) (length f.blocks))

  -- at an entry, where it is known of walks from the next place that are no longer
  from_entry : (i k m : ℕ) → k < length (order_at os i) → ((p : ℕ) → p ≤ m → Decided (Leads f os n i (k + 1) p)) → Decided (Leads f os n i k m)
  from_entry i k m inside later =
      same_as (from_steps f os n i k m) (steps f os n i k m) (either (both (used_or f os n i k) (number_or m 1)) (either passes (inr leaves)))
    where
      x : ℕ
      x = (at_some (order_at os i) k inside).0

      entry : IsEntry os i k x
      entry = (at_some (order_at os i) k inside).1

      leaves : (j l : ℕ) × IsEnd os i k × HasSuccessor f i j × Leads f os n j 0 l × (m ≡ 1 + l) → ⊥
      leaves (j, l, end, next, walk, sum) = absurd (omega arith)

      after : Decided ((l : ℕ) × Leads f os n i (k + 1) l × (m ≡ cost f x + l))
      after = ⊎_elim
          (λ (less : m < cost f x). inr (λ (l, walk, sum). absurd (omega arith)))
          (λ (more : cost f x ≤ m).
          same_as (λ walk. (m - cost f x, walk, omega arith)) (λ (l, walk, sum). let one : l ≡ m - cost f x = omega arith in subst (λ (w : ℕ). Leads f os n i (k + 1) w) one walk)
          (later (m - cost f x) (omega arith)))
          (cases_lt m (cost f x))

      passes : Decided ((y l : ℕ) × IsEntry os i k y × ¬ (y ≡ n) × Leads f os n i (k + 1) l × (m ≡ cost f y + l))
      passes =
          same_as (λ (apart, (l, walk, sum)). (x, l, entry, apart, walk, sum))
          (λ (y, l, at, apart, walk, sum).
          let same : y ≡ x = same_Some y x (sym at ∙ entry) in
          ((λ e. apart (same ∙ e)), (l, walk, subst (λ (z : ℕ). m ≡ cost f z + l) same sum)))
          (both (neither (number_or x n)) after)

  -- from any place, r entries before the end of its block
  leads_or : (room m : ℕ) → m < room → (r i k : ℕ) → r + k ≡ length (order_at os i) → Decided (Leads f os n i k m)
  leads_or zero m low r i k rest = absurd (omega arith)
  leads_or (suc room) m low zero i k rest = from_end i k m (omega arith) (λ p j l. leads_or room p (omega arith) (length (order_at os j)) j 0 (omega arith))
  leads_or (suc room) m low (suc r) i k rest = from_entry i k m (omega arith) (λ p l. leads_or (suc room) p (omega arith) r i (k + 1) (omega arith))

  -- a use that comes before the definition, in the block of the place
  abbrev pub EndsFrom : ℕ → ℕ → Type 0
  EndsFrom i k = (l : ℕ) × k ≤ l × IsUsedAt f os n i l × IsFree os n i k l

  ends_or : (i k : ℕ) → Decided (EndsFrom i k)
  ends_or i k =
      same_as (λ (l, b, (low, (used, free))). (l, low, used, free)) (λ (l, low, used, free). let b : l ≤ length (order_at os i) = used_within f os n i l used in (l, omega arith, (low, (used, free))))
      (below (λ l. k ≤ l × (IsUsedAt f os n i l × IsFree os n i k l)) (λ l. both (le_or k l) (both (used_or f os n i l) (free_or os n i k l))) (length (order_at os i) + 1))

  -- no definition in the rest of a block
  all_free : (i k : ℕ) → IsFree os n i k (length (order_at os i)) → (l : ℕ) → IsFree os n i k l
  all_free i k free l j a b e = free j a (slice_get_within (order_at os i) j n e) e

  all_free_or : (i k : ℕ) → Decided ((l : ℕ) → IsFree os n i k l)
  all_free_or i k = same_as (all_free i k) (λ free. free (length (order_at os i))) (free_or os n i k (length (order_at os i)))

  -- a walk through a whole block, and through blocks of a list alone
  abbrev pub Crosses : ℕ → ℕ → Type 0
  Crosses i j = ((l : ℕ) → IsFree os n i 0 l) × HasSuccessor f i j

  abbrev pub Through : List ℕ → ℕ → ℕ → Type 0
  Through [] i j = Crosses i j
  Through (x ∷ xs) i j = Through xs i j ⊎ (Through xs i x × Through xs x j)

  through_or : (xs : List ℕ) (i j : ℕ) → Decided (Through xs i j)
  through_or [] i j = both (all_free_or i 0) (successor_or f i j)
  through_or (x ∷ xs) i j = either (through_or xs i j) (both (through_or xs i x) (through_or xs x j))

  through_live : (xs : List ℕ) (i j : ℕ) → Through xs i j → IsLive f os n j 0 → IsLive f os n i 0
  through_live [] i j (free, next) (m, walk) = (_, leaves_by f os n i 0 j m (omega arith) free next walk)
  through_live (x ∷ xs) i j (inl path) live = through_live xs i j path live
  through_live (x ∷ xs) i j (inr (first, second)) live = through_live xs i x first (through_live xs x j second live)

  crosses_through : (xs : List ℕ) (i j : ℕ) → Crosses i j → Through xs i j
  crosses_through [] i j c = c
  crosses_through (x ∷ xs) i j c = inl (crosses_through xs i j c)

  -- one more block before
  through_more : (xs : List ℕ) (i j k : ℕ) → Crosses i j → Contains xs j → Through xs j k → Through xs i k
  through_more [] i j k c (l, b, e) path = absurd (omega arith)
  through_more (x ∷ xs) i j k c (zero, b, e) path =
      let first : Through xs i x = subst (λ (y : ℕ). Through xs i y) (sym e) (crosses_through xs i j c) in
      inr (first, from_here (subst (λ (y : ℕ). Through (x ∷ xs) y k) (sym e) path))
    where
      from_here : Through (x ∷ xs) x k → Through xs x k
      from_here (inl rest) = rest
      from_here (inr (round, rest)) = rest
  through_more (x ∷ xs) i j k c (suc l, b, e) (inl path) = inl (through_more xs i j k c (l, omega arith, e) path)
  through_more (x ∷ xs) i j k c (suc l, b, e) (inr (first, second)) = inr (through_more xs i j x c (l, omega arith, e) first, second)

  -- the places of all blocks
  abbrev pub upto : ℕ → List ℕ
  upto zero = []
  upto (suc c) = c ∷ upto c

  in_upto : (c j : ℕ) → j < c → Contains (upto c) j
  in_upto zero j l = absurd (omega arith)
  in_upto (suc c) j l = ⊎_elim
      (λ (low : j < c). let (k, b, e) = in_upto c j low in (suc k, omega arith, e))
      (λ (high : c ≤ j). let same : c ≡ j = omega arith in (0, omega arith, same))
      (cases_lt j c)

  -- what is live at the start of a block
  abbrev pub Reaches : ℕ → Type 0
  Reaches i = EndsFrom i 0 ⊎ ((j : ℕ) × j < length f.blocks × (Through (upto (length f.blocks)) i j × EndsFrom j 0))

  reaches_or : (i : ℕ) → Decided (Reaches i)
  reaches_or i =
      either (ends_or i 0) (below (λ j. Through (upto (length f.blocks)) i j × EndsFrom j 0) (λ j. both (through_or (upto (length f.blocks)) i j) (ends_or j 0)) (length f.blocks))

  ends_live : (i k : ℕ) → EndsFrom i k → IsLive f os n i k
  ends_live i k (l, low, used, free) = (_, ends_at f os n i k l low used free)

  reaches_live : (i : ℕ) → Reaches i → IsLive f os n i 0
  reaches_live i (inl ends) = ends_live i 0 ends
  reaches_live i (inr (j, b, (path, ends))) = through_live (upto (length f.blocks)) i j path (ends_live j 0 ends)

  live_reaches : (room i m : ℕ) → m < room → Leads f os n i 0 m → Reaches i
  live_reaches zero i m low walk = absurd (omega arith)
  live_reaches (suc room) i m low walk = ⊎_elim
      (λ (l, a, used, free, sum). inl (l, a, used, free))
      (λ (free, (j, p, next, rest, sum)).
      let there : j < length f.blocks = leads_within f os n j 0 p size rest in
      more j there (free, next) (live_reaches room j p (omega (arith, sum)) rest))
      (comes f os n i 0 m walk)
    where
      more : (j : ℕ) → j < length f.blocks → Crosses i j → Reaches j → Reaches i
      more j there c (inl ends) = inr (j, there, (crosses_through (upto (length f.blocks)) i j c, ends))
      more j there c (inr (k, b, (path, ends))) = inr (k, b, (through_more (upto (length f.blocks)) i j k c (in_upto (length f.blocks) j there) path, ends))

  start_or : (i : ℕ) → Decided (IsLive f os n i 0)
  start_or i = same_as (reaches_live i) (λ (m, walk). live_reaches (m + 1) i m (omega arith) walk) (reaches_or i)

  -- and at any place
  abbrev pub LeavesFrom : ℕ → ℕ → Type 0
  LeavesFrom i k = ((l : ℕ) → IsFree os n i k l) × ((j : ℕ) × j < length f.blocks × (HasSuccessor f i j × IsLive f os n j 0))

  live_or : (i k : ℕ) → k ≤ length (order_at os i) → Decided (IsLive f os n i k)
  live_or i k low = same_as to back (either (ends_or i k) (both (all_free_or i k) (below (λ j. HasSuccessor f i j × IsLive f os n j 0) (λ j. both (successor_or f i j) (start_or j)) (length f.blocks))))
    where
      to : EndsFrom i k ⊎ LeavesFrom i k → IsLive f os n i k
      to (inl ends) = ends_live i k ends
      to (inr (free, (j, b, (next, (m, walk))))) = (_, leaves_by f os n i k j m low free next walk)

      back : IsLive f os n i k → EndsFrom i k ⊎ LeavesFrom i k
      back (m, walk) = ⊎_elim
          (λ (l, a, used, free, sum). inl (l, a, used, free))
          (λ (free, (j, p, next, rest, sum)). inr (free, (j, leads_within f os n j 0 p size rest, (next, (p, rest)))))
          (comes f os n i k m walk)

  -- so there is a next use, or none
  pub next_there : (i k : ℕ) → k ≤ length (order_at os i) → (o : Option ℕ) × NextUseIs f os n i k o
  next_there i k low = go (live_or i k low)
    where
      go : Decided (IsLive f os n i k) → (o : Option ℕ) × NextUseIs f os n i k o
      go (inr none) = (None, none)
      go (inl (m, walk)) =
          let (d, leads, less) = least (Leads f os n i k) (λ w. leads_or (w + 1) w (omega arith) (length (order_at os i) - k) i k (omega arith)) (m + 1) m (omega arith) walk in
          (Some d, record { leads = leads; least = less })

-- whether a place is there
placed_or : (f : FuncRecord) (os : List (List ℕ)) (b k : ℕ) → Decided ((i : ℕ) × IsPlaced f os i b k)
placed_or f os b k =
    same_as (λ (i, l, there). (i, there)) (λ (i, (c, at, id, low)). (i, slice_get_within f.blocks i c at, (c, at, id, low))) (below (λ i. IsPlaced f os i b k) at_or (length f.blocks))
  where
    at_or : (i : ℕ) → Decided (IsPlaced f os i b k)
    at_or i = go (slice_get f.blocks i) refl
      where
        go : (o : Option BlockRecord) → slice_get f.blocks i ≡ o → Decided (IsPlaced f os i b k)
        go None e = inr (λ (c, at, id, low). none-some c (sym e ∙ at))
        go (Some c) e =
            same_as (λ (id, low). (c, e, id, low))
            (λ (d, at, id, low). let one : c ≡ d = same_Some c d (sym e ∙ at) in (ap (λ (x : BlockRecord). x.id) one ∙ id, low))
            (both (number_or c.id b) (le_or k (length (order_at os i))))

-- and a function that tells them
pub next_uses_there : (f : FuncRecord) (os : List (List ℕ)) → IsOrdered f os → (next : ℕ → ℕ → ℕ → Option ℕ) × AllNextUses f os next
next_uses_there f os given = (told, record { each = λ i b k v there. right i b k v there (placed_or f os b k); outside = λ b k v none. nowhere b k v none (placed_or f os b k) })
  where
    at : (b k v : ℕ) → Decided ((i : ℕ) × IsPlaced f os i b k) → Option ℕ
    at b k v (inl (i, (c, e, id, low))) = (next_there f os v given.size i k low).0
    at b k v (inr none) = None

    told : ℕ → ℕ → ℕ → Option ℕ
    told b k v = at b k v (placed_or f os b k)

    right : (i b k v : ℕ) → IsPlaced f os i b k → (p : Decided ((i : ℕ) × IsPlaced f os i b k)) → NextUseIs f os v i k (at b k v p)
    right i b k v (c, e, id, low) (inl (j, (d, g, jd, less))) =
        let same : j ≡ i = block_alone f os given j i d c g e (jd ∙ sym id) in
        subst (λ (q : ℕ). NextUseIs f os v q k (next_there f os v given.size j k less).0) same (next_there f os v given.size j k less).1
    right i b k v there (inr none) = absurd (none (i, there))

    nowhere : (b k v : ℕ) → ((i : ℕ) → ¬ IsPlaced f os i b k) → (p : Decided ((i : ℕ) × IsPlaced f os i b k)) → at b k v p ≡ None
    nowhere b k v none (inl (i, there)) = absurd (none i there)
    nowhere b k v none (inr nor) = refl

-- The walk of a key through the cells of its area.
use Rattle.std.proofs.Common.{◌≡◌, ◌≢◌, ℕ, zero, suc, ◌+◌, ◌-◌, ◌*◌, ◌/◌, ◌%◌, ◌<◌, Bool, List, [], ◌∷◌, ◌++◌, refl, sym, ap, ◌∙◌, subst, arith, length-append, get_or, length, append_assoc, add-zero, div-add-mod', suc-mul, if◌then◌else◌, eq-eqb}
use Rattle.std.specs.List.{Contains}
use Rattle.std.proofs.Math.Nat.{mod-eq_of_lt, mod-lt}
use Rattle.std.proofs.lemmas.Nat.{mod-mul-add}
use Rattle.atomic_table.proofs.Lists.{one_turn}
use Rattle.std.proofs.lemmas.List.{append-nil, get_or_past}
use Rattle.std.proofs.lemmas.List.Elements.{Contains-append_left, Contains-push}
use mathlib.Core.Logic.{dite}
use native.Mathlib.Decide.{ℕ_discrete, dec_le, dec_lt}
use Rattle.bk_core.specs.Rule.{Sight, sight, walk, keys_of, cells_of}
use Rattle.bk_core.specs.Events.{saw, HasWalked}
use Rattle.bk_share.specs.declared.shares.Share.{Share}
use Rattle.bk_share.specs.declared.shares.Pass.{Pass}
use Rattle.bk_share.specs.Plan.{Scheme}
use Rattle.bk_share.specs.Law.{IsSound}
use Rattle.bk_share.specs.Passes.{announced_in, view, IsPassOf, knows_more, Learns}

walk_start : (n k : ℕ) → 0 < n → k % n ≡ walk n k 0
walk_start n k h = sym (ap (λ (x : ℕ). x % n) (add-zero (k % n)) ∙ mod-eq_of_lt (mod-lt k h))

-- one more step, inside and round the end
walk_inside : (n k i c : ℕ) → walk n k i ≡ c → c + 1 < n → walk n k (i + 1) ≡ c + 1
walk_inside n k i c e h =
    let b : ℕ = k % n in let x : ℕ = b + i in let q : ℕ = x / n * n in
    let d : q + x % n ≡ x = div-add-mod' x n in let is : x % n ≡ c = e in
    let sum : b + (i + 1) ≡ q + (c + 1) = omega arith in
    ap (λ (y : ℕ). y % n) sum ∙ mod-mul-add (x / n) n (c + 1) h

walk_round : (n k i c : ℕ) → 0 < n → walk n k i ≡ c → c + 1 ≡ n → walk n k (i + 1) ≡ 0
walk_round n k i c pos e h =
    let b : ℕ = k % n in let x : ℕ = b + i in let q : ℕ = x / n * n in
    let d : q + x % n ≡ x = div-add-mod' x n in let is : x % n ≡ c = e in
    let next : suc (x / n) * n ≡ q + n = suc-mul (x / n) n in
    let r : ℕ = suc (x / n) * n in let next' : r ≡ q + n = next in
    let sum : b + (i + 1) ≡ r + 0 = omega arith in
    ap (λ (y : ℕ). y % n) sum ∙ mod-mul-add (suc (x / n)) n 0 pos

-- it comes to each cell
walk_hits : (n k c : ℕ) → c < n → (j : ℕ) × (j < n) × (walk n k j ≡ c)
walk_hits n k c h =
    let b : ℕ = k % n in let below : b < n = mod-lt k (let t : 0 < n = omega arith in t) in
    dite (dec_le b c)
    (λ le. let sum : b + (c - b) ≡ c = omega arith in (c - b, omega arith, ap (λ (y : ℕ). y % n) sum ∙ mod-eq_of_lt h))
    (λ gt. let sum : b + (c + n - b) ≡ 1 * n + c = omega arith in (c + n - b, omega arith, ap (λ (y : ℕ). y % n) sum ∙ mod-mul-add 1 n c h))

-- no cell is come to twice
walk_once : (n k i j : ℕ) → i < n → j < n → walk n k i ≡ walk n k j → i ≡ j
walk_once n k i j hi hj e = let b : ℕ = k % n in dite (dec_le i j)
    (λ le. let same : b + i ≡ b + j = one_turn (b + i) (b + j) n (omega arith) (omega arith) e in omega arith)
    (λ gt. let same : b + j ≡ b + i = one_turn (b + j) (b + i) n (omega arith) (omega arith) (sym e) in omega arith)

pub saw_none : (v : Sight) (a c n : ℕ) → n ≡ 0 → saw v a c n ≡ v
saw_none v a c n e = ap (λ (b : Bool). if b then v else sight v.parts v.numbers (v.known ++ (a, c, n) ∷ [])) (eq-eqb n 0 e)

-- the last of a list, and those before it
module _ {A : Type 0} (x d : A) where
  last_of : (l : List A) → get_or (l ++ x ∷ []) (length l) d ≡ x
  last_of [] = refl
  last_of (y ∷ ys) = last_of ys

  before_last : (l : List A) (j : ℕ) → j < length l → get_or (l ++ x ∷ []) j d ≡ get_or l j d
  before_last [] j lt = absurd (omega arith)
  before_last (y ∷ ys) zero lt = refl
  before_last (y ∷ ys) (suc j) lt = before_last ys j (omega arith)

-- only the three areas have keys
pub area_of_key : (s : Share) (a k : ℕ) → Contains (keys_of (announced_in s) a) k → a < 3
area_of_key s a k has = dite (dec_lt a 3) (λ lt. lt)
    (λ ge. let three = s.three in let none : keys_of (announced_in s) a ≡ [] = get_or_past (announced_in s) a [] (omega arith) in
    let empty = subst (λ (l : List ℕ). Contains l k) none has in let lt : empty.0 < 0 = empty.1 in absurd (omega arith))

abbrev pub cells_at : Share → ℕ → ℕ
cells_at s a = cells_of (announced_in s) a

-- after i cells, none of which had the key
pub record Walking (s : Share) (v : Sight) (p : Pass) (a k i cell : ℕ) : Type 0 where
  pub pass : IsPassOf s p
  pub place : walk (cells_at s a) k i ≡ cell
  pub in_area : cell < cells_at s a
  pub parts : (view p).parts ≡ v.parts
  pub numbers : (view p).numbers ≡ v.numbers
  pub more : List (ℕ × ℕ × ℕ)
  pub known : (view p).known ≡ v.known ++ more
  pub one_each : length more ≡ i
  pub along : (j : ℕ) → j < length more → (word : ℕ) × (get_or more j (0, 0, 0) ≡ (a, walk (cells_at s a) k j, word))
  pub met : (j : ℕ) → j < i → (other : ℕ) × (other ≢ k) × Contains (view p).known (a, walk (cells_at s a) k j, other)
  pub sound : 0 < i → IsSound p.seat.me.0

pub walking_starts : (s : Share) (p : Pass) (a k : ℕ) → IsPassOf s p → Walking s (view p) p a k 0 (k % cells_at s a)
walking_starts s p a k h = let pos : 0 < cells_at s a = omega arith in record {
  pass = h;
  place = sym (walk_start (cells_at s a) k pos);
  in_area = mod-lt k pos;
  parts = refl;
  numbers = refl;
  more = [];
  known = sym (append-nil (view p).known);
  one_each = refl;
  along = λ j lt. absurd (omega arith);
  met = λ j lt. absurd (omega arith);
  sound = λ lt. absurd (omega arith);
}

module _ (s : Share) (v : Sight) (p : Pass) (a k i cell : ℕ) (w : Walking s v p a k i cell) where
  pub walked : i < cells_at s a → HasWalked (view p).known (cells_at s a) a cell k
  walked lt = (i, lt, w.place, w.met)

  module _ (q : Pass) (found : ℕ) (h : IsPassOf s q) (learnt : view q ≡ knows_more (view p) a cell found) (sound : IsSound q.seat.me.0) where
    abbrev Pair : ℕ × ℕ × ℕ
    Pair = (a, cell, found)

    parts_now : (view q).parts ≡ v.parts
    parts_now = ap (λ (u : Sight). u.parts) learnt ∙ w.parts

    numbers_now : (view q).numbers ≡ v.numbers
    numbers_now = ap (λ (u : Sight). u.numbers) learnt ∙ w.numbers

    known_now : (view q).known ≡ v.known ++ (w.more ++ Pair ∷ [])
    known_now = ap (λ (u : Sight). u.known) learnt ∙ ap (λ (l : List (ℕ × ℕ × ℕ)). l ++ Pair ∷ []) w.known ∙ append_assoc v.known w.more (Pair ∷ [])

    one_more : length (w.more ++ Pair ∷ []) ≡ i + 1
    one_more = let l = length-append w.more (Pair ∷ []) in let n = w.one_each in omega arith

    along_now : (j : ℕ) → j < length (w.more ++ Pair ∷ []) → (word : ℕ) × (get_or (w.more ++ Pair ∷ []) j (0, 0, 0) ≡ (a, walk (cells_at s a) k j, word))
    along_now j lt = dite (ℕ_discrete j i)
        (λ e. let at : j ≡ length w.more = e ∙ sym w.one_each in (
          found,
          ap (λ (n : ℕ). get_or (w.more ++ Pair ∷ []) n (0, 0, 0)) at ∙ last_of Pair (0, 0, 0) w.more
              ∙ ap (λ (c : ℕ). (a, c, found)) (sym (ap (walk (cells_at s a) k) e ∙ w.place)),
        ))
        (λ ne. let inside : j < length w.more = let l = one_more in let n = w.one_each in omega arith in
        let old = w.along j inside in (old.0, before_last Pair (0, 0, 0) w.more j inside ∙ old.1))

    knows_it : Contains (view q).known Pair
    knows_it = subst (λ (u : Sight). Contains u.known Pair) (sym learnt) (Contains-push (view p).known Pair)

    still_knows : (x : ℕ × ℕ × ℕ) → Contains (view p).known x → Contains (view q).known x
    still_knows x c = subst (λ (u : Sight). Contains u.known x) (sym learnt) (Contains-append_left (view p).known (Pair ∷ []) x c)

    walking_on : (next : ℕ) → next < cells_at s a → walk (cells_at s a) k (i + 1) ≡ next → found ≢ k → Walking s v q a k (i + 1) next
    walking_on next lt is apart = record {
      pass = h;
      place = is;
      in_area = lt;
      parts = parts_now;
      numbers = numbers_now;
      more = w.more ++ Pair ∷ [];
      known = known_now;
      one_each = one_more;
      along = along_now;
      met = λ j below. dite (ℕ_discrete j i)
          (λ e. (found, apart, subst (λ (c : ℕ). Contains (view q).known (a, c, found)) (sym (ap (walk (cells_at s a) k) e ∙ w.place)) knows_it))
          (λ ne. let m = w.met j (omega arith) in (m.0, m.1, still_knows (a, walk (cells_at s a) k j, m.0) m.2));
      sound = λ _. sound;
    }

    pub walking_inside : cell + 1 ≢ cells_at s a → found ≢ k → Walking s v q a k (i + 1) (cell + 1)
    walking_inside ne apart = let t = w.in_area in let lt : cell + 1 < cells_at s a = omega arith in walking_on (cell + 1) lt (walk_inside (cells_at s a) k i cell w.place lt) apart

    pub walking_round : cell + 1 ≡ cells_at s a → found ≢ k → Walking s v q a k (i + 1) 0
    walking_round e apart = let pos : 0 < cells_at s a = omega arith in walking_on 0 pos (walk_round (cells_at s a) k i cell pos w.place e) apart

    once_each : i < cells_at s a → (m n : ℕ) → m < length (w.more ++ Pair ∷ []) → n < length (w.more ++ Pair ∷ []) → (get_or (w.more ++ Pair ∷ []) m (0, 0, 0)).1 ≡ (get_or (w.more ++ Pair ∷ []) n (0, 0, 0)).1 → m ≡ n
    once_each lt m n hm hn e = let l = one_more in let x = along_now m hm in let y = along_now n hn in
        walk_once (cells_at s a) k m n (omega arith) (omega arith) (sym (ap (λ (q : ℕ × ℕ × ℕ). q.1) x.1) ∙ e ∙ ap (λ (q : ℕ × ℕ × ℕ). q.1) y.1)

    pub learnt_all : i < cells_at s a → Learns (cells_at s a) a k v (view q)
    learnt_all lt = record { parts = parts_now; numbers = numbers_now; more = w.more ++ Pair ∷ []; known = known_now; few = let l = one_more in omega arith; along = along_now; one_each = once_each lt }

    pub knows_key : found ≡ k → Contains (view q).known (a, cell, k)
    knows_key e = subst (λ (x : ℕ). Contains (view q).known (a, cell, x)) e knows_it

    pub only_cell : found ≡ k → (c : ℕ) → Contains (view q).known (a, c, k) → c ≡ cell
    only_cell e c has = sound.one_cell a c cell k has (knows_key e)

-- a walk does not come to its end
pub walking_ends : (s : Share) (v : Sight) (p : Pass) (a k cell : ℕ) → a < 3 → Walking s v p a k (cells_at s a) cell → ⊥
walking_ends s v p a k cell ha w = (w.sound (omega arith)).room a ha
    (λ c lt. let hit = walk_hits (cells_at s a) k c (subst (λ (q : Scheme). c < cells_of q.announced a) w.pass.plan lt) in let m = w.met hit.0 hit.1 in
    (m.0, subst (λ (x : ℕ). Contains (view p).known (a, x, m.0)) hit.2 m.2))

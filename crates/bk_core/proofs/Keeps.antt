-- Each event keeps the rule of the share.
use Rattle.std.proofs.Common.{◌≡◌, ◌≢◌, ⊎_elim, ℕ, zero, suc, ◌+◌, ◌%◌, ◌^◌, ◌<◌, ◌≤◌, ◌==◌, if◌then◌else◌, List, [], ◌∷◌, ◌++◌, length, set, get_or, refl, sym, ap, ◌∙◌, subst, arith, length-append, get_or-set_same, get_or-set_other, length-set, add-zero, zero-add, Bool, eq-eqb, ne_eqb}
use Rattle.std.specs.List.{Contains, sum_by, count_by}
use Rattle.std.proofs.lemmas.Bool.Decides.{nat_tests}
use Rattle.std.proofs.lemmas.List.Sums.{sum_by-set, sum_by_push, sum_by-append, sum_by-cons}
use Rattle.std.proofs.lemmas.List.Elements.{Contains-push_cases, Contains-append_cases}
use Rattle.std.proofs.lemmas.List.{set-get_or}
use mathlib.Core.Logic.{dite}
use native.Mathlib.Decide.{ℕ_discrete, dec_lt}
use Rattle.bk_core.specs.Rule.{Sight, sight, nobody, worker, keys_of, cells_of, walk, once_below, drawn, times_drawn, IsCounted, IsPlaced, IsFilled, IsCorrect, Rule}
use Rattle.bk_core.specs.Events.{drew, saw, both, less, taken, HasWalked}

-- a fact of every worker, after one view changed, and after a worker came
pub at_worker : (F : Sight → Type 0) (vs : List Sight) (w : ℕ) (v : Sight) → w < length vs → F v → ((u : ℕ) → u ≢ w → F (worker vs u)) → (u : ℕ) → F (worker (set vs w v) u)
at_worker F vs w v h mine others u = dite (ℕ_discrete u w)
    (λ e. subst F (sym (ap (λ (i : ℕ). get_or (set vs w v) i nobody) e ∙ get_or-set_same vs w v nobody h)) mine)
    (λ ne. subst F (sym (get_or-set_other vs w u v nobody ne)) (others u ne))

pub at_more : (F : Sight → Type 0) (vs : List Sight) (v : Sight) → F v → F nobody → ((u : ℕ) → F (worker vs u)) → (u : ℕ) → F (worker (vs ++ v ∷ []) u)
at_more F [] v mine none others zero = mine
at_more F [] v mine none others (suc u) = none
at_more F (x ∷ xs) v mine none others zero = others zero
at_more F (x ∷ xs) v mine none others (suc u) = at_more F xs v mine none (λ i. others (suc i)) u

abbrev pick : Bool → ℕ
pick b = if b then 1 else 0

-- the numbers below n + 1 are n and those below n
once_more : (x n : ℕ) → once_below x (suc n) ≡ once_below x n + pick (n == x)
once_more x n = grind (arith, nat_tests)

once_outside : (x n : ℕ) → n ≤ x → once_below x n ≡ 0
once_outside x n h = grind (arith, nat_tests)

once_inside : (x n : ℕ) → x < n → once_below x n ≡ 1
once_inside x n h = grind (arith, nat_tests)

-- with no parts, nothing
abbrev Idle : Sight → Type 0
Idle v = v.parts ≡ 0 → (v.numbers ≡ []) × (v.known ≡ [])

module _ (parts claims : ℕ) (vs : List Sight) (w : ℕ) (in_range : w < length vs) (c : IsCounted parts claims vs) where
  -- a view gets known pairs
  pub learns_counted : (known : List (ℕ × ℕ × ℕ)) → (worker vs w).parts ≢ 0 → IsCounted parts claims (set vs w (sight (worker vs w).parts (worker vs w).numbers known))
  learns_counted known has =
      let v = sight (worker vs w).parts (worker vs w).numbers known in
      let n : drawn (set vs w v) ≡ drawn vs = let s = sum_by-set (λ (u : Sight). length u.numbers) vs w v nobody in_range in omega arith in record {
        counts = c.counts ∙ ap (λ (i : ℕ). i % 2 ^ 64) (sym n);
        each_once = λ le x.
            let s = sum_by-set (λ (u : Sight). count_by (λ y. y == x) u.numbers) vs w v nobody in_range in
            let old = c.each_once (omega arith) x in
            let t : times_drawn x (set vs w v) ≡ times_drawn x vs = omega arith in
            t ∙ old ∙ ap (once_below x) (sym n);
        parts_add = let s = sum_by-set (λ (u : Sight). u.parts) vs w v nobody in_range in let p = c.parts_add in omega arith;
        idle = at_worker Idle vs w v in_range (λ none. absurd (has none)) (λ u _. c.idle u);
      }

  pub draws_counted : (worker vs w).parts ≢ 0 → IsCounted parts ((claims + 1) % 2 ^ 64) (set vs w (drew (worker vs w) claims))
  draws_counted has =
      let v = drew (worker vs w) claims in
      let n : drawn (set vs w v) ≡ suc (drawn vs) = let s = sum_by-set (λ (u : Sight). length u.numbers) vs w v nobody in_range in let l = length-append (worker vs w).numbers (claims ∷ []) in omega arith in record {
        counts = let is = c.counts in omega arith;
        each_once = λ le x.
            let s = sum_by-set (λ (u : Sight). count_by (λ y. y == x) u.numbers) vs w v nobody in_range in
            let more = sum_by_push (λ (y : ℕ). if y == x then 1 else 0) (worker vs w).numbers claims in
            let old = c.each_once (omega arith) x in
            let is : claims ≡ drawn vs = let is = c.counts in omega arith in
            let hit : ℕ → ℕ = λ i. if i == x then 1 else 0 in let one : hit claims ≡ hit (drawn vs) = ap hit is in
            let t : times_drawn x (set vs w v) ≡ once_below x (suc (drawn vs)) = let next = once_more x (drawn vs) in omega arith in
            t ∙ ap (once_below x) (sym n);
        parts_add = let s = sum_by-set (λ (u : Sight). u.parts) vs w v nobody in_range in let p = c.parts_add in omega arith;
        idle = at_worker Idle vs w v in_range (λ none. absurd (has none)) (λ u _. c.idle u);
      }

  pub splits_counted : 1 < (worker vs w).parts → IsCounted parts claims (set vs w (less (worker vs w)) ++ sight 1 [] [] ∷ [])
  splits_counted has =
      let v = less (worker vs w) in let x = sight 1 [] [] in let all = set vs w v ++ x ∷ [] in
      let n : drawn all ≡ drawn vs = let s = sum_by-set (λ (u : Sight). length u.numbers) vs w v nobody in_range in let p = sum_by_push (λ (u : Sight). length u.numbers) (set vs w v) x in omega arith in record {
        counts = c.counts ∙ ap (λ (i : ℕ). i % 2 ^ 64) (sym n);
        each_once = λ le y.
            let s = sum_by-set (λ (u : Sight). count_by (λ z. z == y) u.numbers) vs w v nobody in_range in
            let p = sum_by_push (λ (u : Sight). count_by (λ z. z == y) u.numbers) (set vs w v) x in
            let old = c.each_once (omega arith) y in
            let t : times_drawn y all ≡ times_drawn y vs = omega arith in
            t ∙ old ∙ ap (once_below y) (sym n);
        parts_add = let s = sum_by-set (λ (u : Sight). u.parts) vs w v nobody in_range in let p = sum_by_push (λ (u : Sight). u.parts) (set vs w v) x in let q = c.parts_add in omega arith;
        idle = at_more Idle (set vs w v) x (λ none. absurd (omega arith)) (λ _. (refl, refl)) (at_worker Idle vs w v in_range (λ none. absurd (omega arith)) (λ u _. c.idle u));
      }

  -- `to` is w
  pub joins_counted : (from : ℕ) → from < length vs → from ≢ w → (worker vs w).parts ≢ 0 → IsCounted parts claims (set (set vs w (both (worker vs w) (worker vs from))) from nobody)
  joins_counted from there apart has =
      let a = worker vs w in let b = worker vs from in let v = both a b in let mid = set vs w v in let all = set mid from nobody in
      let far : from < length mid = let l = length-set vs w v in omega arith in
      let is : worker mid from ≡ b = get_or-set_other vs w from v nobody apart in
      let n : drawn all ≡ drawn vs =
      let s = sum_by-set (λ (u : Sight). length u.numbers) vs w v nobody in_range in
      let r = sum_by-set (λ (u : Sight). length u.numbers) mid from nobody nobody far in
      let i : length (worker mid from).numbers ≡ length b.numbers = ap (λ (u : Sight). length u.numbers) is in
      let l = length-append a.numbers b.numbers in omega arith in record {
        counts = c.counts ∙ ap (λ (i : ℕ). i % 2 ^ 64) (sym n);
        each_once = λ le y.
            let s = sum_by-set (λ (u : Sight). count_by (λ z. z == y) u.numbers) vs w v nobody in_range in
            let r = sum_by-set (λ (u : Sight). count_by (λ z. z == y) u.numbers) mid from nobody nobody far in
            let i = ap (λ (u : Sight). count_by (λ z. z == y) u.numbers) is in
            let l = sum_by-append (λ (z : ℕ). if z == y then 1 else 0) a.numbers b.numbers in
            let old = c.each_once (omega arith) y in
            let t : times_drawn y all ≡ times_drawn y vs = omega arith in
            t ∙ old ∙ ap (once_below y) (sym n);
        parts_add =
            let s = sum_by-set (λ (u : Sight). u.parts) vs w v nobody in_range in
            let r = sum_by-set (λ (u : Sight). u.parts) mid from nobody nobody far in
            let i = ap (λ (u : Sight). u.parts) is in let q = c.parts_add in omega arith;
        idle = at_worker Idle mid from nobody far (λ _. (refl, refl)) (λ u _. at_worker Idle vs w v in_range (λ none. absurd (has (omega arith))) (λ i _. c.idle i) u);
      }

-- cells: what a take does to one area
module _ (keys : List ℕ) (at now : ℕ → ℕ) (c k : ℕ) where
  abbrev N : ℕ
  N = length keys + 1

  -- the key's walk comes to the cell c, and before it each cell is full, with another key
  abbrev pub Reaches : Type 0
  Reaches = (steps : ℕ) × (steps < N) × (walk N k steps ≡ c) × ((j : ℕ) → j < steps → (at (walk N k j) ≢ 0) × (at (walk N k j) ≢ k))

  module _ (f : IsFilled keys at) (in_range : c < N) (empty : at c ≡ 0) (some_key : k ≢ 0) (way : Reaches) where
    -- no cell has the key yet
    fresh : (d : ℕ) → d < N → at d ≢ k
    fresh d h is =
        let old : IsPlaced keys at k d = subst (λ (i : ℕ). IsPlaced keys at i d) is (f.held d h (λ z. some_key (sym is ∙ z))) in
        dite (dec_lt way.0 old.steps)
        (λ lt. old.full way.0 lt (ap at way.2 ∙ empty))
        (λ ge. dite (dec_lt old.steps way.0)
        (λ lt. (way.3 old.steps lt).1 (ap at old.there ∙ is))
        (λ le. let same : way.0 ≡ old.steps = omega arith in
        let cd : c ≡ d = sym way.2 ∙ ap (walk N k) same ∙ old.there in
        some_key (sym is ∙ ap at (sym cd) ∙ empty)))

    module _ (announced : Contains keys k) (here : now c ≡ k) (other : (d : ℕ) → d < N → d ≢ c → now d ≡ at d) where
      same_word : (d : ℕ) → d < N → at d ≢ 0 → now d ≡ at d
      same_word d h full = other d h (λ e. full (ap at e ∙ empty))

      on_walk : (key j : ℕ) → walk N key j < N
      on_walk key j = omega arith

      still : (key d : ℕ) → IsPlaced keys at key d → IsPlaced keys now key d
      still key d h = record { announced = h.announced; steps = h.steps; short = h.short; there = h.there; full = λ j lt z. h.full j lt (sym (same_word (walk N key j) (on_walk key j) (h.full j lt)) ∙ z) }

      mine : IsPlaced keys now k c
      mine = record { announced = announced; steps = way.0; short = way.1; there = way.2; full = λ j lt z. (way.3 j lt).0 (sym (same_word (walk N k j) (on_walk k j) (way.3 j lt).0) ∙ z) }

      pub takes_filled : IsFilled keys now
      takes_filled = record {
        held = λ d h full. dite (ℕ_discrete d c)
            (λ e. subst (λ (p : ℕ × ℕ). IsPlaced keys now p.0 p.1) (λ i. (sym (ap now e ∙ here) i, sym e i)) mine)
            (λ ne. let is = other d h ne in subst (λ (key : ℕ). IsPlaced keys now key d) (sym is) (still (at d) d (f.held d h (λ z. full (is ∙ z)))));
        alone = λ d e hd he full is. dite (ℕ_discrete d c)
            (λ dc. dite (ℕ_discrete e c) (λ ec. ec ∙ sym dc) (λ ne. absurd (fresh e he (sym (other e he ne) ∙ is ∙ ap now dc ∙ here))))
            (λ nd. let was = other d hd nd in dite (ℕ_discrete e c)
            (λ ec. absurd (fresh d hd (sym was ∙ sym is ∙ ap now ec ∙ here)))
            (λ ne. f.alone d e hd he (λ z. full (was ∙ z)) (sym (other e he ne) ∙ is ∙ was)));
      }

-- an area whose cells stay as they were
filled_same : (keys : List ℕ) (at now : ℕ → ℕ) → ((d : ℕ) → d < length keys + 1 → now d ≡ at d) → IsFilled keys at → IsFilled keys now
filled_same keys at now same f = record {
  held = λ d h full.
      let h' = f.held d h (λ z. full (same d h ∙ z)) in
      subst (λ (key : ℕ). IsPlaced keys now key d) (sym (same d h))
      (record { announced = h'.announced; steps = h'.steps; short = h'.short; there = h'.there; full = λ j lt z. h'.full j lt (sym (same (walk (length keys + 1) (at d) j) (omega arith)) ∙ z) });
  alone = λ d e hd he full is. f.alone d e hd he (λ z. full (same d hd ∙ z)) (sym (same e he) ∙ is ∙ same d hd);
}

abbrev Rights : List (List ℕ) → (ℕ → ℕ → ℕ) → Sight → Type 0
Rights announced at v = (pair : ℕ × ℕ × ℕ) → Contains v.known pair → IsCorrect announced at pair

rights_none : (announced : List (List ℕ)) (at : ℕ → ℕ → ℕ) (parts : ℕ) (numbers : List ℕ) → Rights announced at (sight parts numbers [])
rights_none announced at parts numbers pair h = let lt : h.0 < 0 = h.1 in absurd (omega arith)

rights_push : (announced : List (List ℕ)) (at : ℕ → ℕ → ℕ) (v : Sight) (p : ℕ × ℕ × ℕ) → Rights announced at v → IsCorrect announced at p → Rights announced at (sight v.parts v.numbers (v.known ++ p ∷ []))
rights_push announced at v p old new pair h = ⊎_elim (λ was. old pair was) (λ is. subst (λ (q : ℕ × ℕ × ℕ). IsCorrect announced at q) is new) (Contains-push_cases v.known p pair h)

-- the words may be told in another way
pub rule_same : (announced : List (List ℕ)) (parts claims : ℕ) (at now : ℕ → ℕ → ℕ) (vs : List Sight) → ((b d : ℕ) → b < 3 → d < cells_of announced b → now b d ≡ at b d) → Rule announced parts claims at vs → Rule announced parts claims now vs
rule_same announced parts claims at now vs same r = record {
  counted = r.counted;
  filled = λ b hb. filled_same (keys_of announced b) (at b) (now b) (λ d hd. same b d hb hd) (r.filled b hb);
  right = λ w q h. let x = r.right w q h in record { area = x.area; cell = x.cell; full = x.full; is = same q.0 q.1 x.area x.cell ∙ x.is };
}

module _ (announced : List (List ℕ)) (parts claims : ℕ) (at : ℕ → ℕ → ℕ) (vs : List Sight) (r : Rule announced parts claims at vs) (w : ℕ) (in_range : w < length vs) where
  pub draws : (worker vs w).parts ≢ 0 → Rule announced parts ((claims + 1) % 2 ^ 64) at (set vs w (drew (worker vs w) claims))
  draws has = record {
    counted = draws_counted parts claims vs w in_range r.counted has;
    filled = r.filled;
    right = at_worker (Rights announced at) vs w (drew (worker vs w) claims) in_range (r.right w) (λ u _. r.right u);
  }

  -- a look at a full cell
  pub sees : (a c : ℕ) → (worker vs w).parts ≢ 0 → a < 3 → c < cells_of announced a → at a c ≢ 0 → Rule announced parts claims at (set vs w (sight (worker vs w).parts (worker vs w).numbers ((worker vs w).known ++ (a, c, at a c) ∷ [])))
  sees a c has ha hc full = let v = worker vs w in let p : ℕ × ℕ × ℕ = (a, c, at a c) in record {
    counted = learns_counted parts claims vs w in_range r.counted (v.known ++ p ∷ []) has;
    filled = r.filled;
    right = at_worker (Rights announced at) vs w (sight v.parts v.numbers (v.known ++ p ∷ [])) in_range (rights_push announced at v p (r.right w) (record { area = ha; cell = hc; full = full; is = refl })) (λ u _. r.right u);
  }

  -- a take of an empty cell
  pub takes : (now : ℕ → ℕ → ℕ) (a c k : ℕ) → (worker vs w).parts ≢ 0 → a < 3 → c < cells_of announced a → at a c ≡ 0 → k ≢ 0 → Contains (keys_of announced a) k
      → ((steps : ℕ) × (steps < cells_of announced a) × (walk (cells_of announced a) k steps ≡ c) × ((j : ℕ) → j < steps → (other : ℕ) × (other ≢ k) × Contains (worker vs w).known (a, walk (cells_of announced a) k j, other)))
      → now a c ≡ k → ((b d : ℕ) → b < 3 → d < cells_of announced b → (b ≡ a → d ≢ c) → now b d ≡ at b d)
      → Rule announced parts claims now (set vs w (sight (worker vs w).parts (worker vs w).numbers ((worker vs w).known ++ (a, c, k) ∷ [])))
  takes now a c k has ha hc empty some_key ann way here others = let v = worker vs w in let p : ℕ × ℕ × ℕ = (a, c, k) in
      let reaches : Reaches (keys_of announced a) (at a) (now a) c k = (way.0, way.1, way.2, λ j lt. let s = way.3 j lt in let q = r.right w (a, walk (cells_of announced a) k j, s.0) s.2 in ((λ z. q.full (sym q.is ∙ z)), (λ z. s.1 (sym q.is ∙ z)))) in
      let keep : (q : ℕ × ℕ × ℕ) → IsCorrect announced at q → IsCorrect announced now q = λ q h. record {
        area = h.area;
        cell = h.cell;
        full = h.full;
        is = others q.0 q.1 h.area h.cell (λ e f. h.full (sym h.is ∙ ap (λ (i : ℕ). at i q.1) e ∙ ap (at a) f ∙ empty)) ∙ h.is;
      } in record {
        counted = learns_counted parts claims vs w in_range r.counted (v.known ++ p ∷ []) has;
        filled = λ b hb. dite (ℕ_discrete b a)
            (λ e. subst (λ (i : ℕ). IsFilled (keys_of announced i) (now i)) (sym e)
            (takes_filled (keys_of announced a) (at a) (now a) c k (r.filled a ha) hc empty some_key reaches ann here (λ d hd ne. others a d ha hd (λ _. ne))))
            (λ ne. filled_same (keys_of announced b) (at b) (now b) (λ d hd. others b d hb hd (λ e. absurd (ne e))) (r.filled b hb));
        right = at_worker (Rights announced now) vs w (sight v.parts v.numbers (v.known ++ p ∷ [])) in_range
            (rights_push announced now v p (λ q h. keep q (r.right w q h)) (record { area = ha; cell = hc; full = some_key; is = here }))
            (λ u _ q h. keep q (r.right u q h));
      }

  -- a look at any cell
  pub looks : (a c : ℕ) → (worker vs w).parts ≢ 0 → a < 3 → c < cells_of announced a → Rule announced parts claims at (set vs w (saw (worker vs w) a c (at a c)))
  looks a c has ha hc = let v = worker vs w in dite (ℕ_discrete (at a c) 0)
      (λ e. let same : saw v a c (at a c) ≡ v = ap (λ (b : Bool). if b then v else sight v.parts v.numbers (v.known ++ (a, c, at a c) ∷ [])) (eq-eqb (at a c) 0 e) in
      subst (λ (l : List Sight). Rule announced parts claims at l) (sym (ap (set vs w) same ∙ set-get_or vs w nobody)) r)
      (λ ne. let same : saw v a c (at a c) ≡ sight v.parts v.numbers (v.known ++ (a, c, at a c) ∷ []) = ap (λ (b : Bool). if b then v else sight v.parts v.numbers (v.known ++ (a, c, at a c) ∷ [])) (ne_eqb (at a c) 0 ne) in
      subst (λ (u : Sight). Rule announced parts claims at (set vs w u)) (sym same) (sees a c has ha hc ne))

  -- a take of any cell
  pub takes_any : (now : ℕ → ℕ → ℕ) (a c k : ℕ) → (worker vs w).parts ≢ 0 → a < 3 → c < cells_of announced a → k ≢ 0 → Contains (keys_of announced a) k
      → HasWalked (worker vs w).known (cells_of announced a) a c k
      → now a c ≡ taken (at a c) k → ((b d : ℕ) → b < 3 → d < cells_of announced b → (b ≡ a → d ≢ c) → now b d ≡ at b d)
      → Rule announced parts claims now (set vs w (saw (worker vs w) a c (taken (at a c) k)))
  takes_any now a c k has ha hc some_key ann way here others = let v = worker vs w in dite (ℕ_discrete (at a c) 0)
      (λ empty. let is : taken (at a c) k ≡ k = ap (λ (b : Bool). if b then k else at a c) (eq-eqb (at a c) 0 empty) in
      let same : saw v a c (taken (at a c) k) ≡ sight v.parts v.numbers (v.known ++ (a, c, k) ∷ []) = ap (saw v a c) is ∙ ap (λ (b : Bool). if b then v else sight v.parts v.numbers (v.known ++ (a, c, k) ∷ [])) (ne_eqb k 0 some_key) in
      subst (λ (u : Sight). Rule announced parts claims now (set vs w u)) (sym same) (takes now a c k has ha hc empty some_key ann way (here ∙ is) others))
      (λ full. let is : taken (at a c) k ≡ at a c = ap (λ (b : Bool). if b then k else at a c) (ne_eqb (at a c) 0 full) in
      subst (λ (u : Sight). Rule announced parts claims now (set vs w u)) (sym (ap (saw v a c) is))
      (rule_same announced parts claims at now (set vs w (saw v a c (at a c)))
      (λ b d hb hd. dite (ℕ_discrete b a)
      (λ e. dite (ℕ_discrete d c) (λ f. ap (λ (i : ℕ). now i d) e ∙ ap (now a) f ∙ here ∙ is ∙ sym (ap (λ (i : ℕ). at i d) e ∙ ap (at a) f)) (λ ne. others b d hb hd (λ _. ne)))
      (λ ne. others b d hb hd (λ e. absurd (ne e))))
      (looks a c has ha hc)))

  pub splits : 1 < (worker vs w).parts → Rule announced parts claims at (set vs w (less (worker vs w)) ++ sight 1 [] [] ∷ [])
  splits has = record {
    counted = splits_counted parts claims vs w in_range r.counted has;
    filled = r.filled;
    right = at_more (Rights announced at) (set vs w (less (worker vs w))) (sight 1 [] []) (rights_none announced at 1 []) (rights_none announced at 0 []) (at_worker (Rights announced at) vs w (less (worker vs w)) in_range (r.right w) (λ u _. r.right u));
  }

  pub joins : (from : ℕ) → from < length vs → from ≢ w → (worker vs w).parts ≢ 0 → Rule announced parts claims at (set (set vs w (both (worker vs w) (worker vs from))) from nobody)
  joins from there apart has = let v = both (worker vs w) (worker vs from) in record {
    counted = joins_counted parts claims vs w in_range r.counted from there apart has;
    filled = r.filled;
    right = at_worker (Rights announced at) (set vs w v) from nobody (let l = length-set vs w v in omega arith) (rights_none announced at 0 [])
        (λ u _. at_worker (Rights announced at) vs w v in_range (λ q h. ⊎_elim (λ x. r.right w q x) (λ y. r.right from q y) (Contains-append_cases (worker vs w).known (worker vs from).known q h)) (λ i _. r.right i) u);
  }

-- at the start
pub rule_starts : (announced : List (List ℕ)) (parts : ℕ) (at : ℕ → ℕ → ℕ) → 1 ≤ parts → ((b d : ℕ) → b < 3 → d < cells_of announced b → at b d ≡ 0) → Rule announced parts 0 at (sight parts [] [] ∷ [])
rule_starts announced parts at some empty = record {
  counted = record { counts = refl; each_once = λ _ x. sym (once_outside x 0 (omega arith)); parts_add = omega arith; idle = at_more Idle [] (sight parts [] []) (λ none. absurd (omega arith)) (λ _. (refl, refl)) (λ u _. (refl, refl)) };
  filled = λ b hb. record { held = λ c h full. absurd (full (empty b c hb h)); alone = λ c d h _ full _. absurd (full (empty b c hb h)) };
  right = at_more (Rights announced at) [] (sight parts [] []) (rights_none announced at parts []) (rights_none announced at 0 []) (λ u. rights_none announced at 0 []);
}

-- who has all the parts knows all that was drawn
zeros_add : (f : Sight → ℕ) (vs : List Sight) → ((u : ℕ) → (worker vs u).parts ≡ 0 → f (worker vs u) ≡ 0) → sum_by (λ v. v.parts) vs ≡ 0 → sum_by f vs ≡ 0
zeros_add f [] h none = refl
zeros_add f (x ∷ xs) h none =
    let p = sum_by-cons (λ (v : Sight). v.parts) x xs in let s = sum_by-cons f x xs in
    let a : f x ≡ 0 = h 0 (omega arith) in
    let b : sum_by f xs ≡ 0 = zeros_add f xs (λ u. h (suc u)) (omega arith) in omega arith

part_of : (vs : List Sight) (w : ℕ) → (worker vs w).parts ≤ sum_by (λ v. v.parts) vs
part_of [] w = omega arith
part_of (x ∷ xs) zero = let p = sum_by-cons (λ (v : Sight). v.parts) x xs in omega arith
part_of (x ∷ xs) (suc w) = let p = sum_by-cons (λ (v : Sight). v.parts) x xs in let r = part_of xs w in omega arith

alone_adds : (f : Sight → ℕ) (vs : List Sight) (w : ℕ) → f nobody ≡ 0 → ((u : ℕ) → (worker vs u).parts ≡ 0 → f (worker vs u) ≡ 0) → sum_by (λ v. v.parts) vs ≡ (worker vs w).parts → sum_by f vs ≡ f (worker vs w)
alone_adds f [] w z h is = sym z
alone_adds f (x ∷ xs) zero z h is =
    let p = sum_by-cons (λ (v : Sight). v.parts) x xs in let s = sum_by-cons f x xs in
    let b : sum_by f xs ≡ 0 = zeros_add f xs (λ u. h (suc u)) (omega arith) in omega arith
alone_adds f (x ∷ xs) (suc w) z h is =
    let p = sum_by-cons (λ (v : Sight). v.parts) x xs in let s = sum_by-cons f x xs in let le = part_of xs w in
    let a : f x ≡ 0 = h 0 (omega arith) in
    let b : sum_by f xs ≡ f (worker xs w) = alone_adds f xs w z (λ u. h (suc u)) (omega arith) in omega arith

-- no number was drawn that who has all the parts has not
pub all_drawn : (announced : List (List ℕ)) (parts claims : ℕ) (at : ℕ → ℕ → ℕ) (vs : List Sight) (w : ℕ) → Rule announced parts claims at vs → (worker vs w).parts ≡ parts → (x : ℕ) → times_drawn x vs ≡ count_by (λ y. y == x) (worker vs w).numbers
all_drawn announced parts claims at vs w r all x = alone_adds (λ u. count_by (λ y. y == x) u.numbers) vs w refl (λ u e. ap (λ (l : List ℕ). count_by (λ y. y == x) l) (r.counted.idle u e).0) (r.counted.parts_add ∙ sym all)

pub whole : (announced : List (List ℕ)) (parts claims : ℕ) (at : ℕ → ℕ → ℕ) (vs : List Sight) (w : ℕ) → 1 ≤ parts → Rule announced parts claims at vs → (worker vs w).parts ≡ parts → Rule announced parts claims at (worker vs w ∷ [])
whole announced parts claims at vs w some r all = let v = worker vs w in
    let adds : (f : Sight → ℕ) → f nobody ≡ 0 → ((u : ℕ) → (worker vs u).parts ≡ 0 → f (worker vs u) ≡ 0) → sum_by f (v ∷ []) ≡ sum_by f vs = λ f z h. sum_by-cons f v [] ∙ add-zero (f v) ∙ sym (alone_adds f vs w z h (r.counted.parts_add ∙ sym all)) in
    let n : drawn (v ∷ []) ≡ drawn vs = adds (λ u. length u.numbers) refl (λ u e. ap (λ (l : List ℕ). length l) (r.counted.idle u e).0) in record {
      counted = record {
        counts = r.counted.counts ∙ ap (λ (i : ℕ). i % 2 ^ 64) (sym n);
        each_once = λ le x. adds (λ u. count_by (λ y. y == x) u.numbers) refl (λ u e. ap (λ (l : List ℕ). count_by (λ y. y == x) l) (r.counted.idle u e).0) ∙ r.counted.each_once (omega arith) x ∙ ap (once_below x) (sym n);
        parts_add = let s = sum_by-cons (λ (u : Sight). u.parts) v [] in omega arith;
        idle = at_more Idle [] v (r.counted.idle w) (λ _. (refl, refl)) (λ u _. (refl, refl));
      };
      filled = r.filled;
      right = at_more (Rights announced at) [] v (r.right w) (rights_none announced at 0 []) (λ u. rights_none announced at 0 []);
    }

-- a number at or above a count was drawn: then each number below the count was drawn once
counted_once : (xs : List ℕ) (n : ℕ) → Contains xs n → 1 ≤ count_by (λ y. y == n) xs
counted_once [] n h = let lt : h.0 < 0 = h.1 in absurd (omega arith)
counted_once (x ∷ xs) n h = let c = sum_by-cons (λ (y : ℕ). pick (y == n)) x xs in dite (ℕ_discrete x n)
    (λ e. let hit : pick (x == n) ≡ 1 = ap pick (eq-eqb x n e) in omega arith)
    (λ ne. let r = counted_once xs n (tail_has x xs n ne h) in omega arith)
  where
    tail_has : (x : ℕ) (xs : List ℕ) (n : ℕ) → x ≢ n → Contains (x ∷ xs) n → Contains xs n
    tail_has x xs n ne h = at h.0 h.1 h.2
      where
        at : (k : ℕ) → k < length (x ∷ xs) → get_or (x ∷ xs) k n ≡ n → Contains xs n
        at zero lt is = absurd (ne is)
        at (suc k) lt is = (k, omega arith, is)

pub each_below : (parts claims count n : ℕ) (v : Sight) → IsCounted parts claims (v ∷ []) → length v.numbers ≤ 2 ^ 64 → count ≤ n → Contains v.numbers n → (x : ℕ) → x < count → count_by (λ y. y == x) v.numbers ≡ 1
each_below parts claims count n v c le past has x lt =
    let d : drawn (v ∷ []) ≡ length v.numbers = zero-add (length v.numbers) in
    let one : (y : ℕ) → count_by (λ z. z == y) v.numbers ≡ once_below y (length v.numbers) = λ y. sym (zero-add (count_by (λ z. z == y) v.numbers)) ∙ c.each_once (omega arith) y ∙ ap (once_below y) d in
    let inside : n < length v.numbers = dite (dec_lt n (length v.numbers)) (λ h. h) (λ ge. let z = once_outside n (length v.numbers) (omega arith) in let o = one n in let p = counted_once v.numbers n has in absurd (omega arith)) in
    one x ∙ once_inside x (length v.numbers) (omega arith)

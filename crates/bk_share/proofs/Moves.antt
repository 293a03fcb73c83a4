-- Each step of the table keeps the rule, since each is an event of its core.
use Rattle.std.proofs.Common.{◌≡◌, ◌≢◌, ⊎_elim, ℕ, zero, suc, ◌+◌, ◌%◌, ◌^◌, ◌<◌, ◌≤◌, Bool, true, false, List, [], ◌∷◌, ◌++◌, map, length, set, get_or, take, drop, refl, sym, ap, ◌∙◌, subst, arith, length-set, get_or-set_same, get_or-set_other, eqb, ◌==◌, if◌then◌else◌, eq-eqb, ne_eqb, zero-add}
use Rattle.std.specs.List.{Contains, count_by}
use Rattle.std.proofs.lemmas.List.{map-set, length-replicate, ext_get_or}
use mathlib.Core.Option.{none, some, some-injective, some-ne-none}
use mathlib.Core.Logic.{dite}
use native.Mathlib.Decide.{ℕ_discrete}
use lib.ListN.{get_elem?}
use prog.Atomic.{either}
use Rattle.atomic_table.specs.Table.{step, keeps, stepped, Allows, Splits, Joins, opening, Final}
use Rattle.atomic_table.specs.Table.{Seen as AsSeen}
use Rattle.atomic_table.specs.declared.shared.Seat.{Seat}
use Rattle.atomic_table.proofs.Lists.{at_set, at_snoc}
use Rattle.bk_core.specs.Rule.{Sight, sight, worker, keys_of, cells_of, Rule}
use Rattle.bk_core.specs.Events.{CoreState, core_state, drew, saw, taken, HasWalked, zeros, word_at, MeetsRule}
use Rattle.bk_core.specs.declared.events.Event.{Event}
use Rattle.bk_core.specs.declared.events.Event.TheVariants.{Claim, Look, Take, Split, Join}
use Rattle.bk_core.proofs.Keeps.{rule_starts, whole, all_drawn}
use Rattle.bk_core.proofs.Room.{has_room, one_cell}
use Rattle.bk_core.proofs.Runs.{keeps_rule}
use Rattle.bk_share.specs.declared.rules.Seen.{Seen}
use Rattle.bk_share.specs.declared.shares.Share.{Share}
use Rattle.bk_share.specs.declared.shares.Pass.{Pass}
use Rattle.bk_share.specs.Passes.{IsPassOf, IsLast}
use Rattle.bk_share.specs.Plan.{Scheme, base, areas_in}
use Rattle.bk_share.specs.Law.{seen, view_of, TableState, core_of, Lawful, Seated, IsSound, Draws, Looks, Takes, left, right, merged, spent}
use Rattle.bk_share.specs.Steps.{after_claim, after_look, after_take, after_split, after_join, IsSeat, IsEvent}
use Rattle.bk_share.proofs.Cells.{base_above, base_grows, in_table, apart, word_of_piece, length_of_piece, word_is, sizes_are}
use Rattle.bk_share.proofs.Steps.{found, was_there, claim_event, look_event, take_event, split_event, join_event}

module _ (p : Scheme) (s : TableState) (h : Lawful p s) (id : ℕ) (v : Seen) (at : get_elem? s.views id ≡ some v) where
  abbrev Vs : List Sight
  Vs = map view_of s.views

  here : id < length Vs
  here = (found s.views id v at).0

  mine : worker Vs id ≡ v.view
  mine = (found s.views id v at).1

  seated : v.view.parts ≢ 0 → IsSeat p s id v
  seated has = (h.sized, at, has)

  -- an event keeps the rule
  stands : (t : TableState) (e : Event) → length t.words ≡ length s.words → IsEvent p s e t → ((j : ℕ) (u : Seen) → get_elem? t.views j ≡ some u → u.view.parts ≢ 0 → u.plan ≡ p) → Lawful p t
  stands t e size event planned = record {
    sized = size ∙ h.sized;
    rule = subst (MeetsRule p.announced p.parts) (sym event.is) (keeps_rule p.announced p.parts (core_of p s) h.rule e event.can event.announced);
    planned = planned;
  }

  planned_set : (w : Seen) → (w.view.parts ≢ 0 → w.plan ≡ p) → (j : ℕ) (u : Seen) → get_elem? (set s.views id w) j ≡ some u → u.view.parts ≢ 0 → u.plan ≡ p
  planned_set w new j u e = ⊎_elim
      (λ (x : (j ≡ id) × (w ≡ u)). subst (λ (y : Seen). y.view.parts ≢ 0 → y.plan ≡ p) x.1 new)
      (λ (x : (j ≢ id) × (get_elem? s.views j ≡ some u)). h.planned j u x.1)
      (at_set s.views id j w u e)

  -- what the rule tells of the seat after it has the view w
  sound : (words : List ℕ) (w : Seen) → w.plan ≡ p → Lawful p (record { words = words; homes = s.homes; views = set s.views id w }) → IsSound w
  sound words w plan after_it =
      let vs = map view_of (set s.views id w) in
      let is : worker vs id ≡ w.view = ap (λ (l : List Sight). worker l id) (map-set view_of s.views id w) ∙ get_or-set_same Vs id w.view (sight 0 [] []) here in
      let core = core_of p (record { words = words; homes = s.homes; views = set s.views id w }) in
      let r = after_it.rule.rule in
      let known : (x : ℕ × ℕ × ℕ) → Contains w.view.known x → Contains (worker vs id).known x = λ x. subst (λ (u : Sight). Contains u.known x) (sym is) in record {
        room = λ a ha all. has_room p.announced p.parts core.claims (word_at core.areas) vs r id a ha
            (λ c lt. let k = all c (subst (λ (q : Scheme). c < cells_of q.announced a) (sym plan) lt) in (k.0, known (a, c, k.0) k.1));
        one_cell = λ a c d key one two. one_cell p.announced p.parts core.claims (word_at core.areas) vs r id id a c d key (known (a, c, key) one) (known (a, d, key) two);
      }

pub claims : (p : Scheme) (slots id : ℕ) (me : Seated) → me.0.view.parts ≢ 0 → Allows (Lawful p) slots id me 0 (λ n. (n + 1) % 2 ^ 64) (Draws (step slots 0 1 0 none) me)
claims p slots id me has s h _ at _ =
    let n = get_or s.words 0 0 in let w = seen me.0.plan (drew me.0.view n) in (
      w,
      keeps,
      tt,
      stands p s h id me.0 at (after_claim s id me.0) (Claim id) (length-set s.words 0 ((n + 1) % 2 ^ 64)) (claim_event p s id me.0 (seated p s h id me.0 at has))
          (planned_set p s h id me.0 at w (λ _. h.planned id me.0 at has)),
      refl,
    )

-- a step at the word of a cell: what it tells is told of that cell alone
told : (p : Scheme) (a c : ℕ) (F : ℕ → ℕ → Type 0) → a < 3 → c < cells_of p.announced a → F a c
    → (b d : ℕ) → b < 3 → d < cells_of p.announced b → base p.announced a + c ≡ base p.announced b + d → F b d
told p a c F ha hc f b d hb hd e = let same = apart p.announced a c b d hc hd e in subst (λ (q : ℕ × ℕ). F q.0 q.1) (λ i. (same.0 i, same.1 i)) f

-- the plan is that of the seat
pub looking : (slots id : ℕ) (me : Seated) (a c : ℕ) → me.0.view.parts ≢ 0 → a < 3 → c < cells_of me.0.plan.announced a
    → Allows (Lawful me.0.plan) slots id me (base me.0.plan.announced a + c) (λ n. n) (Looks (step slots (base me.0.plan.announced a + c) 0 0 none) me)
looking slots id me a c has ha hc s h _ at _ =
    let p = me.0.plan in let i = base p.announced a + c in let n = get_or s.words i 0 in
    let w = seen p (saw me.0.view a c n) in
    let law = stands p s h id me.0 at (after_look p s id me.0 a c) (Look id a c) (length-set s.words i n) (look_event p s id me.0 (seated p s h id me.0 at has) a c ha hc)
    (planned_set p s h id me.0 at w (λ _. refl)) in (
      w,
      keeps,
      tt,
      law,
      (
        told p a c (λ b d. (w, me.1) ≡ (seen p (saw me.0.view b d n), me.1)) ha hc refl,
        sound p s h id me.0 at (set s.words i n) w refl law,
      ),
    )

either_taken : (n k : ℕ) (b : Bool) → either b k n ≡ (if b then k else n)
either_taken n k true = refl
either_taken n k false = refl

pub taking : (slots id : ℕ) (me : Seated) (a c k : ℕ) → me.0.view.parts ≢ 0 → a < 3 → c < cells_of me.0.plan.announced a → k ≢ 0 → Contains (keys_of me.0.plan.announced a) k
    → HasWalked me.0.view.known (cells_of me.0.plan.announced a) a c k
    → Allows (Lawful me.0.plan) slots id me (base me.0.plan.announced a + c) (λ n. either (eqb n 0) k n) (Takes (step slots (base me.0.plan.announced a + c) 0 k none) me)
taking slots id me a c k has ha hc some_key ann way s h _ at _ =
    let p = me.0.plan in let i = base p.announced a + c in let n = get_or s.words i 0 in
    let w = seen p (saw me.0.view a c (taken n k)) in
    let is : either (eqb n 0) k n ≡ taken n k = either_taken n k (eqb n 0) in
    let law = stands p s h id me.0 at (after_take p s id me.0 a c k) (Take id a c k) (length-set s.words i (taken n k))
    (take_event p s id me.0 (seated p s h id me.0 at has) a c k ha hc some_key ann way) (planned_set p s h id me.0 at w (λ _. refl)) in (
      w,
      keeps,
      tt,
      subst (λ (x : ℕ). Lawful p (stepped s i x id me.1 w keeps)) (sym is) law,
      (
        told p a c (λ b d. (w, me.1) ≡ (seen p (saw me.0.view b d (taken n k)), me.1)) ha hc refl,
        sound p s h id me.0 at (set s.words i (taken n k)) w refl law,
      ),
    )

pub cuts : (id : ℕ) (v : Seen) → 1 < v.view.parts → Splits (Lawful v.plan) id v (left v) (right v)
cuts id v has s h at =
    let p = v.plan in
    stands p s h id v at (after_split s id v) (Split id) refl (split_event p s id v (seated p s h id v at (λ z. absurd (omega arith))) has)
    (λ j u e. ⊎_elim
    (λ was. planned_set p s h id v at (left v) (λ _. refl) j u was)
    (λ (same : right v ≡ u). subst (λ (x : Seen). x.view.parts ≢ 0 → x.plan ≡ p) same (λ _. refl))
    (at_snoc (set s.views id (left v)) (right v) u j e))

pub merges : (id : ℕ) (v : Seen) (other : ℕ) (w : Seen) → v.view.parts ≢ 0 → w.view.parts ≢ 0 → Joins (Lawful v.plan) id v other w (merged v w) spent
merges id v other w has others s h at ne there =
    let p = v.plan in let was = was_there s.views id other (merged v w) w ne there in
    stands p s h id v at (after_join s id v other w) (Join other id) refl (join_event p s id v (seated p s h id v at has) other w (seated p s h other w was others) ne)
    (λ j u e. ⊎_elim
    (λ (x : (j ≡ other) × (spent ≡ u)). subst (λ (y : Seen). y.view.parts ≢ 0 → y.plan ≡ p) x.1 (λ part. absurd (part refl)))
    (λ (x : (j ≢ other) × (get_elem? (set s.views id (merged v w)) j ≡ some u)). planned_set p s h id v at (merged v w) (λ _. refl) j u x.1)
    (at_set (set s.views id (merged v w)) other j spent u e))

pub begins : (p : Scheme) (words : List ℕ) → 1 ≤ p.parts → length words ≡ base p.announced 3 → ((i : ℕ) → get_or words i 0 ≡ 0) → Lawful p (opening words [] (seen p (sight p.parts [] [])))
begins p words pos size zeros = record {
  sized = size;
  rule = record {
    rule = subst (λ (n : ℕ). Rule p.announced p.parts n (word_at (areas_in p.announced words)) (sight p.parts [] [] ∷ [])) (sym (zeros 0))
        (rule_starts p.announced p.parts (word_at (areas_in p.announced words)) pos (λ b d hb hd. word_is p.announced words b d hb hd ∙ zeros (base p.announced b + d)));
    sizes = sizes_are p.announced words size;
  };
  planned = one;
}
  where
    one : (id : ℕ) (v : Seen) → get_elem? (seen p (sight p.parts [] []) ∷ []) id ≡ some v → v.view.parts ≢ 0 → v.plan ≡ p
    one zero v e _ = sym (ap (λ (u : Seen). u.plan) (some-injective (seen p (sight p.parts [] [])) v e))
    one (suc id) v e _ = absurd (some-ne-none v (sym e))

-- the same where the plan and the word are known by equations
pub looking_as : (p : Scheme) (slots id : ℕ) (me : Seated) (i a c : ℕ) → me.0.plan ≡ p → i ≡ base p.announced a + c → me.0.view.parts ≢ 0 → a < 3 → c < cells_of p.announced a
    → Allows (Lawful p) slots id me i (λ n. n) (Looks (step slots i 0 0 none) me)
looking_as p slots id me i a c plan is has ha hc =
    subst (λ (q : Scheme). i ≡ base q.announced a + c → c < cells_of q.announced a → Allows (Lawful q) slots id me i (λ n. n) (Looks (step slots i 0 0 none) me)) plan
    (λ e h. subst (λ (j : ℕ). Allows (Lawful me.0.plan) slots id me j (λ n. n) (Looks (step slots j 0 0 none) me)) (sym e) (looking slots id me a c has ha h)) is hc

pub taking_as : (p : Scheme) (slots id : ℕ) (me : Seated) (i a c k : ℕ) → me.0.plan ≡ p → i ≡ base p.announced a + c → me.0.view.parts ≢ 0 → a < 3 → c < cells_of p.announced a → k ≢ 0
    → Contains (keys_of p.announced a) k → HasWalked me.0.view.known (cells_of p.announced a) a c k
    → Allows (Lawful p) slots id me i (λ n. either (eqb n 0) k n) (Takes (step slots i 0 k none) me)
taking_as p slots id me i a c k plan is has ha hc some_key ann way =
    subst (λ (q : Scheme). i ≡ base q.announced a + c → c < cells_of q.announced a → Contains (keys_of q.announced a) k → HasWalked me.0.view.known (cells_of q.announced a) a c k
    → Allows (Lawful q) slots id me i (λ n. either (eqb n 0) k n) (Takes (step slots i 0 k none) me)) plan
    (λ e h n w. subst (λ (j : ℕ). Allows (Lawful me.0.plan) slots id me j (λ n. either (eqb n 0) k n) (Takes (step slots j 0 k none) me)) (sym e) (taking slots id me a c k has ha h some_key n w)) is hc ann way

pub cuts_as : (p : Scheme) (id : ℕ) (v : Seen) → v.plan ≡ p → 1 < v.view.parts → Splits (Lawful p) id v (left v) (right v)
cuts_as p id v plan has = subst (λ (q : Scheme). Splits (Lawful q) id v (left v) (right v)) plan (cuts id v has)

pub merges_as : (p : Scheme) (id : ℕ) (v : Seen) (other : ℕ) (w : Seen) → v.plan ≡ p → v.view.parts ≢ 0 → w.view.parts ≢ 0 → Joins (Lawful p) id v other w (merged v w) spent
merges_as p id v other w plan has others = subst (λ (q : Scheme). Joins (Lawful q) id v other w (merged v w) spent) plan (merges id v other w has others)

pub saw_parts : (v : Sight) (a c n : ℕ) → (saw v a c n).parts ≡ v.parts
saw_parts v a c n = either_way (eqb n 0)
  where
    either_way : (b : Bool) → (if b then v else sight v.parts v.numbers (v.known ++ (a, c, n) ∷ [])).parts ≡ v.parts
    either_way true = refl
    either_way false = refl

-- what a pass is after a look or a take
pub pass_after : (s : Share) (before after : Pass) (a c n : ℕ) → IsPassOf s before → after.seat.table_id ≡ before.seat.table_id → after.seat.me ≡ (seen before.seat.me.0.plan (saw before.seat.me.0.view a c n), before.seat.me.1) → IsPassOf s after
pass_after s before after a c n h id me = record {
  table = id ∙ h.table;
  plan = ap (λ (m : Seated). m.0.plan) me ∙ h.plan;
  part = λ z. h.part (sym (ap (λ (m : Seated). m.0.view.parts) me ∙ saw_parts before.seat.me.0.view a c n) ∙ z);
  slots = ap (λ (m : Seated). m.1) me ∙ h.slots;
}

pub some_words : (s : Share) → 0 < s.table.shared.table_id.words
some_words s = let w = s.words in let b = base_above s.table.shared.key.announced 3 in omega arith

pub word_fits : (s : Share) (a c i : ℕ) → a < 3 → c < cells_of s.table.shared.key.announced a → i ≡ base s.table.shared.key.announced a + c → i < s.table.shared.table_id.words
word_fits s a c i ha hc e = let w = s.words in let t = in_table s.table.shared.key.announced a c ha hc in omega arith

-- the cell in the words of the pass's own plan
pub told_here : (s : Share) (p : Pass) (a c i : ℕ) → IsPassOf s p → c < cells_of s.table.shared.key.announced a → i ≡ base s.table.shared.key.announced a + c
    → (c < cells_of p.seat.me.0.plan.announced a) × (i ≡ base p.seat.me.0.plan.announced a + c)
told_here s p a c i h hc e = subst (λ (q : Scheme). (c < cells_of q.announced a) × (i ≡ base q.announced a + c)) (sym h.plan) (hc, e)

pub taken_free : (n k : ℕ) → n ≡ 0 → taken n k ≡ k
taken_free n k e = ap (λ (b : Bool). if b then k else n) (eq-eqb n 0 e)

pub taken_full : (n k : ℕ) → n ≢ 0 → taken n k ≡ n
taken_full n k e = ap (λ (b : Bool). if b then k else n) (ne_eqb n 0 e)

-- what a pass is after a take whose word turned out to be x
pub took_as : (p : Scheme) (v : Seated) (w : Seated) (a c n k x : ℕ) → w ≡ (seen p (saw v.0.view a c (taken n k)), v.1) → taken n k ≡ x → w ≡ (seen p (saw v.0.view a c x), v.1)
took_as p v w a c n k x e is = e ∙ ap (λ (y : ℕ). (seen p (saw v.0.view a c y), v.1)) is

pub took : (s : Share) (p : Pass) (seat : Seat (Unit {0}) Seen) (slots i a c n k x : ℕ) → IsPassOf s p → a < 3 → c < cells_of s.table.shared.key.announced a → i ≡ base s.table.shared.key.announced a + c
    → seat.table_id ≡ p.seat.table_id → Takes (step slots i 0 k none) p.seat.me n seat.me → taken n k ≡ x → IsPassOf s (record { seat = seat }) × (seat.me.0.view ≡ saw p.seat.me.0.view a c x)
took s p seat slots i a c n k x h ha hc e id t is =
    let q = told_here s p a c i h hc e in
    let me = took_as p.seat.me.0.plan p.seat.me seat.me a c n k x (t.0 a c ha q.0 q.1) is in
    (pass_after s p (record { seat = seat }) a c x h id me, ap (λ (m : Seated). m.0.view) me)

all_zero : (n i : ℕ) → get_or (zeros n) i 0 ≡ 0
all_zero zero i = refl
all_zero (suc n) zero = refl
all_zero (suc n) (suc i) = all_zero n i

pub begins_as : (p : Scheme) (words : List ℕ) (n : ℕ) → words ≡ zeros n → n ≡ base p.announced 3 → 1 ≤ p.parts → Lawful p (opening words [] (seen p (sight p.parts [] [])))
begins_as p words n is size pos = let none : ℕ = 0 in begins p words pos (ap (λ (l : List ℕ). length l) is ∙ length-replicate n none ∙ size) (λ i. ap (λ (l : List ℕ). get_or l i 0) is ∙ all_zero n i)

pub found_word : (l : List ℕ) (i x : ℕ) → get_elem? l i ≡ some x → get_or l i 0 ≡ x
found_word [] i x e = absurd (some-ne-none x (sym e))
found_word (y ∷ ys) zero x e = some-injective y x e
found_word (y ∷ ys) (suc i) x e = found_word ys i x e

-- a row that was copied from the words at `from`
pub record Copied (words : List ℕ) (from n : ℕ) (row : List ℕ) : Type 0 where
  pub size : length row ≡ n
  pub same : (k : ℕ) → k < length row → get_or row k 0 ≡ get_or words (from + k) 0

copied_is : (words : List ℕ) (from n : ℕ) (row : List ℕ) → from + n ≤ length words → Copied words from n row → row ≡ take n (drop from words)
copied_is words from n row fits c = ext_get_or 0 row (take n (drop from words)) (c.size ∙ sym (length_of_piece words from n fits))
    (λ k lt. c.same k lt ∙ sym (word_of_piece words from n k (subst (λ (m : ℕ). k < m) c.size lt)))

-- the core at the end is that of the words which were copied
pub ends : (p : Scheme) (id : ℕ) (v : Seen) (words : List ℕ) (xs : List (Unit {0})) (a b c : List ℕ) → v.view.parts ≡ p.parts → Final (AsSeen (Lawful p) id v) words xs
    → Copied words (base p.announced 0) (cells_of p.announced 0) a → Copied words (base p.announced 1) (cells_of p.announced 1) b → Copied words (base p.announced 2) (cells_of p.announced 2) c
    → (m : CoreState) × IsLast p.announced p.parts (a ∷ b ∷ c ∷ []) v.view m
ends p id v words xs a b c all f ca cb cc' =
    let s = f.0 in let h = f.1.0 in let is = mine p s h id v f.1.1 in let same : s.words ≡ words = f.2 in
    let size : length words ≡ base p.announced 3 = sym (ap (λ (l : List ℕ). length l) same) ∙ h.sized in
    let fits : (i : ℕ) → i < 3 → base p.announced i + cells_of p.announced i ≤ length words = λ i lt. let g = base_grows p.announced i 3 lt in omega arith in
    let ra = copied_is words (base p.announced 0) (cells_of p.announced 0) a (fits 0 (omega arith)) ca in
    let rb = copied_is words (base p.announced 1) (cells_of p.announced 1) b (fits 1 (omega arith)) cb in
    let rc = copied_is words (base p.announced 2) (cells_of p.announced 2) c (fits 2 (omega arith)) cc' in (
      core_of p s,
      record {
        rule = h.rule;
        areas = ap (areas_in p.announced) same ∙ (λ i. sym ra i ∷ sym rb i ∷ sym rc i ∷ []);
        id = id;
        there = is;
        all_drawn = λ x. all_drawn p.announced p.parts (core_of p s).claims (word_at (core_of p s).areas) (map view_of s.views) id h.rule.rule (ap (λ (u : Sight). u.parts) is ∙ all) x ∙ ap (λ (u : Sight). count_by (λ y. y == x) u.numbers) is;
      },
    )

-- beside the one view that has all parts
pub ends_alone : (announced : List (List ℕ)) (parts : ℕ) (rows : List (List ℕ)) (v : Sight) → 1 ≤ parts → v.parts ≡ parts → (m : CoreState) × IsLast announced parts rows v m
    → MeetsRule announced parts (core_state (length v.numbers % 2 ^ 64) rows (v ∷ []))
ends_alone announced parts rows v pos all last =
    let m = last.0 in let l = last.1 in
    let one = whole announced parts m.claims (word_at m.areas) m.workers l.id pos l.rule.rule (ap (λ (u : Sight). u.parts) l.there ∙ all) in
    let alone : MeetsRule announced parts (core_state m.claims m.areas (worker m.workers l.id ∷ [])) = record { rule = one; sizes = l.rule.sizes } in
    let kept : MeetsRule announced parts (core_state m.claims rows (v ∷ [])) = subst (λ (q : List (List ℕ) × Sight). MeetsRule announced parts (core_state m.claims q.0 (q.1 ∷ []))) (λ i. (l.areas i, l.there i)) alone in
    let count : m.claims ≡ length v.numbers % 2 ^ 64 = kept.rule.counted.counts ∙ ap (λ (n : ℕ). n % 2 ^ 64) (zero-add (length v.numbers)) in
    subst (λ (n : ℕ). MeetsRule announced parts (core_state n rows (v ∷ []))) count kept

pub fills : (row words : List ℕ) (from k x : ℕ) → k < length row → get_elem? words (from + k) ≡ some x → ((j : ℕ) → j < k → get_or row j 0 ≡ get_or words (from + j) 0)
    → (j : ℕ) → j < k + 1 → get_or (set row k x) j 0 ≡ get_or words (from + j) 0
fills row words from k x h e old j lt = dite (ℕ_discrete j k)
    (λ is. ap (λ (i : ℕ). get_or (set row k x) i 0) is ∙ get_or-set_same row k x 0 h ∙ sym (found_word words (from + k) x e) ∙ ap (λ (i : ℕ). get_or words (from + i) 0) (sym is))
    (λ ne. get_or-set_other row k j x 0 ne ∙ old j (omega arith))

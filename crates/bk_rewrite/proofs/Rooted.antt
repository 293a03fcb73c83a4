-- The places of the rules that have an op at the root of their left tree, one rule more at a time.
use Rattle.std.proofs.Common.{◌≡◌, ℕ, zero, suc, ◌+◌, ◌<◌, ◌≤◌, ◌⊎◌, ⊎_elim, refl, ap, sym, subst, ◌∙◌, arith, Bool, List, [], ◌∷◌, ◌++◌, length, Some, None, inl, inr, Vec, Global}
use Rattle.std.specs.Prelude.{slice_get}
use Rattle.std.proofs.lemmas.Bool.{cases_lt}
use Rattle.std.proofs.lemmas.List.{length_push}
use Rattle.std.proofs.lemmas.Option.{slice_get_within}
use Rattle.bk_ops.specs.declared.types.Target.{Target}
use Rattle.bk_ops.specs.declared.table.Op.{Op}
use Rattle.bk_func.specs.Records.{ValueRecord, FuncRecord}
use Rattle.bk_func.specs.Numbers.{value_of}
use Rattle.bk_rule.specs.declared.trees.Bound.{Bound}
use Rattle.bk_rule.specs.declared.trees.Pattern.{Pattern}
use Rattle.bk_rule.specs.declared.trees.Pattern as pattern
use Rattle.bk_rule.specs.declared.trees.Rule.{Rule}
use Rattle.bk_rule.specs.Match.{Matches}
use Rattle.bk_rewrite.specs.declared.roots.Group.{Group}
use Rattle.bk_rewrite.specs.First.{IsNumbered, NeverMatches, NoneMatches}
use Rattle.bk_rewrite.specs.Roots.{root_op, part_of, AreRooted, Grouped, HasGroup, HaveRoots, IsUngrouped}

-- ---- lists that grow by one
pub pushed_old : {A : Type 0} (xs : List A) (y x : A) (i : ℕ) → slice_get xs i ≡ Some x → slice_get (xs ++ y ∷ []) i ≡ Some x
pushed_old [] y x i e = absurd (let q : None ≡ Some x = e in cc)
pushed_old (z ∷ xs) y x zero e = e
pushed_old (z ∷ xs) y x (suc i) e = pushed_old xs y x i e

pub pushed_last : {A : Type 0} (xs : List A) (y : A) → slice_get (xs ++ y ∷ []) (length xs) ≡ Some y
pushed_last [] y = refl
pushed_last (x ∷ xs) y = pushed_last xs y

pub pushed_cases : {A : Type 0} (xs : List A) (y x : A) (i : ℕ) → slice_get (xs ++ y ∷ []) i ≡ Some x → (slice_get xs i ≡ Some x) ⊎ ((i ≡ length xs) × (y ≡ x))
pushed_cases [] y x zero e = inr (refl, (let q : Some y ≡ Some x = e in cc))
pushed_cases [] y x (suc i) e = absurd (let q : None ≡ Some x = e in cc)
pushed_cases (z ∷ xs) y x zero e = inl e
pushed_cases (z ∷ xs) y x (suc i) e = ⊎_elim (λ h. inl h) (λ h. inr (ap suc h.0, h.1)) (pushed_cases xs y x i e)

-- ---- places
-- of the first n rules
pub record RootedBelow (o : Op) (rules : List Rule) (n : ℕ) (places : List ℕ) : Type 0 where
  pub below : (i k : ℕ) → slice_get places i ≡ Some k → k < n
  pub rising : (i j k l : ℕ) → i < j → slice_get places i ≡ Some k → slice_get places j ≡ Some l → k < l
  pub sound : (i k : ℕ) → slice_get places i ≡ Some k → (r : Rule) × (slice_get rules k ≡ Some r) × (root_op r.left ≡ Some o)
  pub whole : (k : ℕ) (r : Rule) → k < n → slice_get rules k ≡ Some r → root_op r.left ≡ Some o → (i : ℕ) × (slice_get places i ≡ Some k)

pub rooted_none : (o : Op) (rules : List Rule) (places : List ℕ) → places ≡ [] → RootedBelow o rules 0 places
rooted_none o rules places is = record {
  below = λ i k e. absurd (let q : None ≡ Some k = subst (λ ps. slice_get ps i ≡ Some k) is e in cc);
  rising = λ i j k l lt e f. absurd (let q : None ≡ Some k = subst (λ ps. slice_get ps i ≡ Some k) is e in cc);
  sound = λ i k e. absurd (let q : None ≡ Some k = subst (λ ps. slice_get ps i ≡ Some k) is e in cc);
  whole = λ k r lt e q. absurd (omega (arith, lt));
}

pub rooted_other : (o : Op) (rules : List Rule) (n : ℕ) (places : List ℕ) (r : Rule) → slice_get rules n ≡ Some r → (root_op r.left ≡ Some o → ⊥) → RootedBelow o rules n places
    → RootedBelow o rules (n + 1) places
rooted_other o rules n places r is other h = record {
  below = λ i k e. (let b = h.below i k e in omega (arith, b));
  rising = h.rising;
  sound = h.sound;
  whole = λ k s lt e q. elim (cases_lt k n) [
    | inl b ↦ h.whole k s b e q
    | inr b ↦ absurd (let j : k ≡ n = omega (arith, lt, b) in
        let z : r ≡ s = (let y : Some r ≡ Some s = sym is ∙ (ap (slice_get rules) (sym j) ∙ e) in cc) in
        other (ap (λ (w : Rule). root_op w.left) z ∙ q))
  ];
}

pub rooted_more : (o : Op) (rules : List Rule) (n : ℕ) (places : List ℕ) (r : Rule) → slice_get rules n ≡ Some r → root_op r.left ≡ Some o → RootedBelow o rules n places
    → RootedBelow o rules (n + 1) (places ++ n ∷ [])
rooted_more o rules n places r is root h = record {
  below = λ i k e. ⊎_elim (λ old. (let b = h.below i k old in omega (arith, b))) (λ new. (let z : n ≡ k = new.1 in omega arith)) (pushed_cases places n k i e);
  rising = λ i j k l lt e f. ⊎_elim
      (λ new. ⊎_elim (λ old. h.rising i j k l lt old new)
      (λ last. (let b = slice_get_within places j l new in let a : i ≡ length places = last.0 in absurd (omega (arith, b, lt))))
      (pushed_cases places n k i e))
      (λ last. ⊎_elim (λ old. (let b = h.below i k old in let z : n ≡ l = last.1 in omega (arith, b)))
      (λ both. (let a : i ≡ length places = both.0 in let c : j ≡ length places = last.0 in absurd (omega (arith, lt))))
      (pushed_cases places n k i e))
      (pushed_cases places n l j f);
  sound = λ i k e. ⊎_elim (λ old. h.sound i k old) (λ new. (r, ap (slice_get rules) (sym new.1) ∙ is, root)) (pushed_cases places n k i e);
  whole = λ k s lt e q. elim (cases_lt k n) [
    | inl b ↦ (let w = h.whole k s b e q in (w.0, pushed_old places n k w.0 w.1))
    | inr b ↦ (let j : n ≡ k = omega (arith, lt, b) in (length places, pushed_last places n ∙ ap (λ m. Some m) j))
  ];
}

pub rooted_all : (o : Op) (rules : List Rule) (n : ℕ) (places : List ℕ) → length rules ≤ n → RootedBelow o rules n places → AreRooted o rules places
rooted_all o rules n places le h = record {
  rising = h.rising;
  sound = h.sound;
  whole = λ k r e q. (let b = slice_get_within rules k r e in h.whole k r (omega (arith, b, le)) e q);
}

-- no rule has the op at its root
pub rooted_nowhere : (o : Op) (rules : List Rule) → ((k : ℕ) (r : Rule) → slice_get rules k ≡ Some r → root_op r.left ≡ Some o → ⊥) → AreRooted o rules []
rooted_nowhere o rules h = record {
  rising = λ i j k l lt e f. absurd (let q : None ≡ Some k = e in cc);
  sound = λ i k e. absurd (let q : None ≡ Some k = e in cc);
  whole = λ k r e q. absurd (h k r e q);
}

-- ---- groups
pub grouped_none : (part : ℕ) (rules : List Rule) (groups : List Group) → groups ≡ [] → Grouped part rules 0 groups
grouped_none part rules groups is = record {
  each = λ i g e. absurd (let q : None ≡ Some g = subst (λ (gs : List Group). slice_get gs i ≡ Some g) is e in cc);
  whole = λ k r o lt e q p. absurd (omega (arith, lt));
}

-- the rule's root op is of another part, or has a group
pub grouped_same : (part : ℕ) (rules : List Rule) (n : ℕ) (groups : List Group) (r : Rule) → slice_get rules n ≡ Some r
    → ((o : Op) → root_op r.left ≡ Some o → part_of o ≡ part → (i : ℕ) × HasGroup groups o i) → Grouped part rules n groups → Grouped part rules (n + 1) groups
grouped_same part rules n groups r is has h = record {
  each = h.each;
  whole = λ k s o lt e q p. elim (cases_lt k n) [
    | inl b ↦ h.whole k s o b e q p
    | inr b ↦ (let j : k ≡ n = omega (arith, lt, b) in
        let z : s ≡ r = (let y : Some s ≡ Some r = sym e ∙ (ap (slice_get rules) j ∙ is) in cc) in
        has o (ap (λ (w : Rule). root_op w.left) (sym z) ∙ q) p)
  ];
}

pub grouped_more : (part : ℕ) (rules : List Rule) (n : ℕ) (groups : List Group) (r : Rule) (new : Group) → slice_get rules n ≡ Some r → root_op r.left ≡ Some new.op
    → AreRooted new.op rules new.places.items → Grouped part rules n groups → Grouped part rules (n + 1) (groups ++ new ∷ [])
grouped_more part rules n groups r new is root rooted h = record {
  each = λ i g e. ⊎_elim (λ old. h.each i g old) (λ last. subst (λ (x : Group). AreRooted x.op rules x.places.items) last.1 rooted) (pushed_cases groups new g i e);
  whole = λ k s o lt e q p. elim (cases_lt k n) [
    | inl b ↦ (let w = h.whole k s o b e q p in (w.0, (w.1.0, pushed_old groups new w.1.0 w.0 w.1.1, w.1.2)))
    | inr b ↦ (let j : k ≡ n = omega (arith, lt, b) in
        let z : s ≡ r = (let y : Some s ≡ Some r = sym e ∙ (ap (slice_get rules) j ∙ is) in cc) in
        let same : new.op ≡ o = (let y : Some new.op ≡ Some o = sym root ∙ (ap (λ (w : Rule). root_op w.left) (sym z) ∙ q) in cc) in
        (length groups, (new, pushed_last groups new, same)))
  ];
}

-- ---- rules that cannot match
-- a tree stands on a value of its root op alone
pub stands_on : (f : FuncRecord) (bs : List Bound) (cs : List Bool) (p : Pattern) (o : Op) (id : ℕ) → root_op p ≡ Some o → Matches f bs p id cs
    → (v : ValueRecord) × (value_of f id ≡ Some v) × (v.op ≡ o)
stands_on f bs cs pattern.Any o id e m = absurd (let q : None ≡ Some o = e in cc)
stands_on f bs cs (pattern.Var i) o id e m = absurd (let q : None ≡ Some o = e in cc)
stands_on f bs cs (pattern.Node' name w ty int x shape ps) o id e m =
    let (n, rest) = m in
    let (v, d, q, b, c, y, k) = rest in
    let z : w ≡ o = (let y : Some w ≡ Some o = e in cc) in
    (v, d, q ∙ z)

pub nowhere_else : (t : Target) (f : FuncRecord) (r : Rule) (id : ℕ) (v : ValueRecord) (o : Op) → Some v ≡ value_of f id → root_op r.left ≡ Some o → (v.op ≡ o → ⊥) → NeverMatches t f r id
nowhere_else t f r id v o is root other = λ bs cs m.
    let s = stands_on f bs cs r.left o id root m.stands in
    let z : v ≡ s.0 = (let y : Some v ≡ Some s.0 = is ∙ s.1 in cc) in
    other (ap (λ (w : ValueRecord). w.op) z ∙ s.2)

-- no tree stands where no value is
pub no_value : (t : Target) (f : FuncRecord) (rules : List Rule) (id : ℕ) → HaveRoots rules → value_of f id ≡ None → NoneMatches t f rules id
no_value t f rules id roots none = λ k r e n bs cs m.
    let w = roots k r e in
    let s = stands_on f bs cs r.left w.0 id w.1 m.stands in
    let q : None ≡ Some s.0 = sym none ∙ s.1 in cc

-- The rules at the first places never match. So none does that stands before the rule at the next of them.
pub record TriedAt (t : Target) (f : FuncRecord) (rules : List Rule) (id : ℕ) (places : List ℕ) (n : ℕ) : Type 0 where
  pub never : (i k : ℕ) (r : Rule) → i < n → slice_get places i ≡ Some k → slice_get rules k ≡ Some r → IsNumbered 0 r.left → NeverMatches t f r id

-- a rule at none of the places never matches
pub not_at : (t : Target) (f : FuncRecord) (rules : List Rule) (id : ℕ) (places : List ℕ) (v : ValueRecord) (k : ℕ) (r : Rule) → HaveRoots rules → AreRooted v.op rules places
    → Some v ≡ value_of f id → slice_get rules k ≡ Some r → ((i : ℕ) → slice_get places i ≡ Some k → ⊥) → NeverMatches t f r id
not_at t f rules id places v k r roots rooted is e apart =
    let w = roots k r e in
    nowhere_else t f r id v w.0 is w.1
    (λ same. (let at = rooted.whole k r e (w.1 ∙ ap (λ o. Some o) (sym same)) in apart at.0 at.1))

further_on : (p : ℕ) (places : List ℕ) (k : ℕ) → (p ≡ k → ⊥) → ((i : ℕ) → slice_get places i ≡ Some k → ⊥) → (i : ℕ) → slice_get (p ∷ places) i ≡ Some k → ⊥
further_on p places k other h zero e = other (let q : Some p ≡ Some k = e in cc)
further_on p places k other h (suc i) e = h i e

further : (p : ℕ) (places : List ℕ) (k : ℕ) → (p ≡ k → ⊥) → ((i : ℕ) × (slice_get places i ≡ Some k)) ⊎ ((i : ℕ) → slice_get places i ≡ Some k → ⊥)
    → ((i : ℕ) × (slice_get (p ∷ places) i ≡ Some k)) ⊎ ((i : ℕ) → slice_get (p ∷ places) i ≡ Some k → ⊥)
further p places k other (inl h) = inl (suc h.0, h.1)
further p places k other (inr h) = inr (further_on p places k other h)

-- a number stands in a list, or it does not
stands_in : (places : List ℕ) (k : ℕ) → ((i : ℕ) × (slice_get places i ≡ Some k)) ⊎ ((i : ℕ) → slice_get places i ≡ Some k → ⊥)
stands_in [] k = inr (λ i e. (let q : None ≡ Some k = e in cc))
stands_in (p ∷ places) k = elim (cases_lt p k) [
  | inl b ↦ further p places k (λ z. omega (arith, b)) (stands_in places k)
  | inr b ↦ elim (cases_lt k p) [
    | inl d ↦ further p places k (λ z. omega (arith, d)) (stands_in places k)
    | inr d ↦ (let z : p ≡ k = omega (arith, b, d) in inl (zero, ap (λ m. Some m) z))
  ]
]

-- what stands before a place, where the rules at the places before it were tried
pub before_this : (t : Target) (f : FuncRecord) (rules : List Rule) (id : ℕ) (places : List ℕ) (v : ValueRecord) (n place : ℕ) → HaveRoots rules → AreRooted v.op rules places
    → Some v ≡ value_of f id → slice_get places n ≡ Some place → TriedAt t f rules id places n
    → (k : ℕ) (r : Rule) → k < place → slice_get rules k ≡ Some r → IsNumbered 0 r.left → NeverMatches t f r id
before_this t f rules id places v n place roots rooted is here tried k r lt e numbered = elim (stands_in places k) [
  | inl w ↦ elim (cases_lt w.0 n) [
    | inl b ↦ tried.never w.0 k r b w.1 e numbered
    | inr b ↦ elim (cases_lt n w.0) [
      | inl d ↦ absurd (let q = rooted.rising n w.0 place k d here w.1 in omega (arith, q, lt))
      | inr d ↦ absurd (let z : n ≡ w.0 = omega (arith, b, d) in
          let y : Some place ≡ Some k = sym here ∙ (ap (slice_get places) z ∙ w.1) in
          let x : place ≡ k = cc in omega (arith, lt))
    ]
  ]
  | inr h ↦ not_at t f rules id places v k r roots rooted is e h
]

pub tried_none : (t : Target) (f : FuncRecord) (rules : List Rule) (id : ℕ) (places : List ℕ) → TriedAt t f rules id places 0
tried_none t f rules id places = record { never = λ i k r lt e q numbered. absurd (omega (arith, lt)) }

pub tried_more : (t : Target) (f : FuncRecord) (rules : List Rule) (id : ℕ) (places : List ℕ) (n place : ℕ) (r : Rule) → slice_get places n ≡ Some place → slice_get rules place ≡ Some r
    → (IsNumbered 0 r.left → NeverMatches t f r id) → TriedAt t f rules id places n → TriedAt t f rules id places (n + 1)
tried_more t f rules id places n place r here is never tried = record {
  never = λ i k s lt e q numbered. elim (cases_lt i n) [
    | inl b ↦ tried.never i k s b e q numbered
    | inr b ↦ (let z : i ≡ n = omega (arith, lt, b) in
        let y : Some k ≡ Some place = sym e ∙ (ap (slice_get places) z ∙ here) in
        let x : k ≡ place = cc in
        let w : Some s ≡ Some r = sym q ∙ (ap (slice_get rules) x ∙ is) in
        let u : s ≡ r = cc in
        subst (λ (g : Rule). NeverMatches t f g id) (sym u) (never (subst (λ (g : Rule). IsNumbered 0 g.left) u numbered)))
  ];
}

pub tried_all : (t : Target) (f : FuncRecord) (rules : List Rule) (id : ℕ) (places : List ℕ) (v : ValueRecord) (n : ℕ) → HaveRoots rules → AreRooted v.op rules places
    → Some v ≡ value_of f id → length places ≤ n → TriedAt t f rules id places n → NoneMatches t f rules id
tried_all t f rules id places v n roots rooted is le tried k r e numbered = elim (stands_in places k) [
  | inl w ↦ (let b = slice_get_within places w.0 k w.1 in tried.never w.0 k r (omega (arith, b, le)) w.1 e numbered)
  | inr h ↦ not_at t f rules id places v k r roots rooted is e h
]

-- ---- groups, one by one
pub no_group_here : (groups : List Group) (o : Op) (n : ℕ) (g : Group) → slice_get groups n ≡ Some g → (g.op ≡ o → ⊥) → ((i : ℕ) → i < n → HasGroup groups o i → ⊥)
    → (i : ℕ) → i < n + 1 → HasGroup groups o i → ⊥
no_group_here groups o n g is other before i lt h = elim (cases_lt i n) [
  | inl b ↦ before i b h
  | inr b ↦ (let z : i ≡ n = omega (arith, lt, b) in
      let y : Some h.0 ≡ Some g = sym h.1 ∙ (ap (slice_get groups) z ∙ is) in
      let x : h.0 ≡ g = cc in
      other (ap (λ (w : Group). w.op) (sym x) ∙ h.2))
]

pub no_groups : (groups : List Group) (o : Op) (n : ℕ) → length groups ≤ n → ((i : ℕ) → i < n → HasGroup groups o i → ⊥) → IsUngrouped groups o
no_groups groups o n le before = λ i h. (let b = slice_get_within groups i h.0 h.1 in before i (omega (arith, b, le)) h)

-- ---- roots, one by one
pub root_here : (rules : List Rule) (n : ℕ) (r : Rule) (o : Op) → slice_get rules n ≡ Some r → root_op r.left ≡ Some o
    → ((k : ℕ) (s : Rule) → k < n → slice_get rules k ≡ Some s → (p : Op) × (root_op s.left ≡ Some p))
    → (k : ℕ) (s : Rule) → k < n + 1 → slice_get rules k ≡ Some s → (p : Op) × (root_op s.left ≡ Some p)
root_here rules n r o is root before k s lt e = elim (cases_lt k n) [
  | inl b ↦ before k s b e
  | inr b ↦ (let z : k ≡ n = omega (arith, lt, b) in
      let y : Some r ≡ Some s = sym is ∙ (ap (slice_get rules) (sym z) ∙ e) in
      let x : r ≡ s = cc in
      (o, ap (λ (w : Rule). root_op w.left) (sym x) ∙ root))
]

pub all_roots : (rules : List Rule) (n : ℕ) → length rules ≤ n → ((k : ℕ) (s : Rule) → k < n → slice_get rules k ≡ Some s → (p : Op) × (root_op s.left ≡ Some p)) → HaveRoots rules
all_roots rules n le before = λ k r e. (let b = slice_get_within rules k r e in before k r (omega (arith, b, le)) e)

-- a group for each root op of a part, and none for this one: then no rule has it
pub ungrouped : (o : Op) (rules : List Rule) (groups : List Group) (k : ℕ) (r : Rule) → Grouped (part_of o) rules (length rules) groups → IsUngrouped groups o
    → slice_get rules k ≡ Some r → root_op r.left ≡ Some o → ⊥
ungrouped o rules groups k r h none e q =
    let b = slice_get_within rules k r e in
    let w = h.whole k r o b e q refl in
    none w.0 w.1

-- ---- parts, one by one
pub record PartsBelow (rules : List Rule) (n : ℕ) (parts : List (Vec Group Global)) : Type 0 where
  pub long : length parts ≡ n
  pub each : (k : ℕ) (groups : Vec Group Global) → slice_get parts k ≡ Some groups → Grouped k rules (length rules) groups.items

pub parts_none : (rules : List Rule) (parts : List (Vec Group Global)) → parts ≡ [] → PartsBelow rules 0 parts
parts_none rules parts is = record {
  long = ap (λ (ps : List (Vec Group Global)). length ps) is;
  each = λ k g e. absurd (let q : None ≡ Some g = subst (λ (ps : List (Vec Group Global)). slice_get ps k ≡ Some g) is e in cc);
}

pub parts_more : (rules : List Rule) (n : ℕ) (parts now : List (Vec Group Global)) (new : Vec Group Global) → now ≡ parts ++ new ∷ [] → PartsBelow rules n parts
    → Grouped n rules (length rules) new.items → PartsBelow rules (n + 1) now
parts_more rules n parts now new is h grouped = record {
  long = ap (λ (ps : List (Vec Group Global)). length ps) is ∙ length_push parts new ∙ ap (λ m. m + 1) h.long;
  each = λ k g e. ⊎_elim (λ old. h.each k g old)
      (λ last. (let z : n ≡ k = omega (arith, last.0, h.long) in
      subst (λ (x : Vec Group Global). Grouped k rules (length rules) x.items) last.1 (subst (λ m. Grouped m rules (length rules) new.items) z grouped)))
      (pushed_cases parts new g k (subst (λ (ps : List (Vec Group Global)). slice_get ps k ≡ Some g) is e));
}

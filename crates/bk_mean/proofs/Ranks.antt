-- The values of a function in form have ranks: each ranks above its arguments, phis aside.
use Rattle.std.proofs.Common.{◌≡◌, ℕ, suc, ◌<◌, refl, ap, sym, ◌∙◌, subst, ◌⊎◌, inl, inr, List, [], ◌∷◌, length, map, Option, Some, None, Bool, true, false}
use Rattle.std.specs.Prelude.{if◌then◌else◌, slice_index}
use Rattle.std.specs.List.{Contains}
use Rattle.std.proofs.lemmas.List.{length-map}
use Rattle.bk_func.specs.Records.{ValueRecord, BlockRecord, FuncRecord}
use Rattle.bk_func.specs.Numbers.{Program, Env, Origin, phi, argument, argument_word, result, address, loaded, checked, same, computed, origin_of, values_of, value_of, numbers, room}
use Rattle.bk_func.specs.Effects.{is_phi, is_load, is_check}
use Rattle.bk_func.specs.Form.{IsFormed}
use Rattle.bk_func.specs.Form.Text.{HasBlock, HasValue, IsPhi}
use Rattle.bk_func.specs.Form.Walks.{IsReached, IsDefinedAt}
use Rattle.bk_func.specs.Form.Before.{Needs, takes, through, ComesBefore, argument as follows, Precedes, right, onward}
use Rattle.bk_func.specs.Form.Signatures.{Setting}
use Rattle.bk_func.proofs.Faults.{In}
use Rattle.bk_func.proofs.Needs.{BlockRanked, found_in}
use Rattle.bk_func.proofs.Unique.{inputs_by, inputs_of, Ranked, Solves, solved}
use Rattle.bk_places.proofs.Elements.{to_contains}
use Rattle.bk_mean.proofs.Named.{IsNamed, got_in, one_or_two, found_value, found_here, id_in}
use Rattle.bk_mean.proofs.Dominance.{Dominates, dominates_onward, one_dominates, defined_here, Home, home, arguments_defined}
use Rattle.bk_mean.proofs.Longest.{deep, Falls, rank_few, rank_falls}
use Rattle.bk_mean.proofs.Roles.{HasRow, no_phi, not_phi, load_args, check_args, copy_args, same_copies, first_argument}
use Rattle.bk_mean.proofs.Formed.{Sound, sound}

-- a value of a reached block bears the number
pub record IsLive (f : FuncRecord) (n : ℕ) : Type 0 where
  pub block : BlockRecord
  pub value : ValueRecord
  pub stands : HasValue f block value
  pub named : value.id ≡ n
  pub reached : IsReached f block

-- what is defined at a reached block is live
pub live_there : (f : FuncRecord) → IsNamed f → (b : BlockRecord) (n : ℕ) → IsReached f b → IsDefinedAt f b n → IsLive f n
live_there f h b n r d = let q = home f h b n r d in record { block = q.block; value = q.value; stands = q.stands; named = q.named; reached = q.reached }

-- the numbers that a value takes, a phi none
abbrev pub taken_by : Option ValueRecord → List ℕ
taken_by None = []
taken_by (Some v) = if is_phi (origin_of v.op.family) then [] else v.args

abbrev pub taken : FuncRecord → ℕ → List ℕ
taken f n = taken_by (value_of f n)

-- the longest chain of values each of which takes the next one, from a value on
abbrev pub rank : FuncRecord → ℕ → ℕ
rank f n = deep (room f) (taken f) n

-- needs lead backwards

pub behind : (f : FuncRecord) (b : BlockRecord) (u v w : ValueRecord) → Precedes f b u v → ComesBefore f b v w → Precedes f b u w
behind f b u v w (right _ _ c) d = onward u v w c (right v w d)
behind f b u v w (onward _ x _ c p) d = onward u x w c (behind f b x v w p d)

pub needs_precede : (f : FuncRecord) (b : BlockRecord) (v u : ValueRecord) → Needs b v u → Precedes f b u v
needs_precede f b v u (takes _ _ t) = right u v (follows u v t)
needs_precede f b v u (through _ x _ t n) = behind f b u x v (needs_precede f b x u n) (follows x v t)

pub needs_onward : (b : BlockRecord) (v u w : ValueRecord) → Needs b v u → Needs b u w → Needs b v w
needs_onward b v u w (takes _ _ t) n = through w u v t n
needs_onward b v u w (through _ x _ t m) n = through w x v t (needs_onward b x u w m n)

-- a value stands in a block on all walks before the other's, or is needed by it in their block
pub record Below (f : FuncRecord) (x y : ℕ) : Type 0 where
  pub lower : BlockRecord
  pub upper : BlockRecord
  pub first : ValueRecord
  pub later : ValueRecord
  pub first_stands : HasValue f lower first
  pub later_stands : HasValue f upper later
  pub first_is : first.id ≡ x
  pub later_is : later.id ≡ y
  pub reached : IsReached f upper
  pub dominates : Dominates f lower upper
  pub way : ¬ (lower ≡ upper) ⊎ ((lower ≡ upper) × Needs upper later first)

below_not_itself : (s : Setting) (f : FuncRecord) → Sound s f → (x : ℕ) → ¬ Below f x x
below_not_itself s f h x q = go q.way
  where
    same_number : q.first.id ≡ q.later.id
    same_number = q.first_is ∙ sym q.later_is

    go : ¬ (q.lower ≡ q.upper) ⊎ ((q.lower ≡ q.upper) × Needs q.upper q.later q.first) → ⊥
    go (inl n) = n (h.named.same_block q.lower q.upper q.first q.later q.first_stands q.later_stands same_number)
    go (inr (e, n)) =
        let P : ValueRecord → Type 0 = λ v. Precedes f q.upper v q.later in
        h.order q.upper q.later q.later_stands
        (subst P (h.named.same_value q.lower q.upper q.first q.later q.first_stands q.later_stands same_number) (needs_precede f q.upper q.later q.first n))

below_onward : (f : FuncRecord) → IsNamed f → (x y z : ℕ) → Below f x y → Below f y z → Below f x z
below_onward f h x y z p q = record {
  lower = p.lower;
  upper = q.upper;
  first = p.first;
  later = q.later;
  first_stands = p.first_stands;
  later_stands = q.later_stands;
  first_is = p.first_is;
  later_is = q.later_is;
  reached = q.reached;
  dominates = over;
  way = go p.way q.way;
}
  where
    met : p.later.id ≡ q.first.id
    met = p.later_is ∙ sym q.first_is

    block : p.upper ≡ q.lower
    block = h.same_block p.upper q.lower p.later q.first p.later_stands q.first_stands met

    value : p.later ≡ q.first
    value = h.same_value p.upper q.lower p.later q.first p.later_stands q.first_stands met

    first_over : Dominates f p.lower q.lower
    first_over = (let P : BlockRecord → Type 0 = λ b. Dominates f p.lower b in subst P block p.dominates)

    over : Dominates f p.lower q.upper
    over = dominates_onward f p.lower q.lower q.upper first_over q.dominates

    -- were the ends one block, the blocks between them were that block too
    apart : ¬ (q.lower ≡ q.upper) → ¬ (p.lower ≡ q.upper)
    apart n e = n (one_dominates f q.lower q.upper q.reached q.dominates (let P : BlockRecord → Type 0 = λ b. Dominates f b q.lower in subst P e first_over))

    apart_below : ¬ (p.lower ≡ p.upper) → q.lower ≡ q.upper → ¬ (p.lower ≡ q.upper)
    apart_below n e d = n (d ∙ sym e ∙ sym block)

    needed : q.lower ≡ q.upper → Needs p.upper p.later p.first → Needs q.upper q.later q.first → Needs q.upper q.later p.first
    needed e m n =
        let P : BlockRecord → Type 0 = λ b. Needs b p.later p.first in
        let R : ValueRecord → Type 0 = λ v. Needs q.upper v p.first in
        needs_onward q.upper q.later q.first p.first n (subst R value (subst P (block ∙ e) m))

    go : ¬ (p.lower ≡ p.upper) ⊎ ((p.lower ≡ p.upper) × Needs p.upper p.later p.first) → ¬ (q.lower ≡ q.upper) ⊎ ((q.lower ≡ q.upper) × Needs q.upper q.later q.first) →
        ¬ (p.lower ≡ q.upper) ⊎ ((p.lower ≡ q.upper) × Needs q.upper q.later p.first)
    go l (inl n) = inl (apart n)
    go (inl n) (inr (e, m)) = inl (apart_below n e)
    go (inr (d, k)) (inr (e, m)) = inr (d ∙ block ∙ e, needed e k m)

-- what a value takes, by the value itself
pub taken_parts : (v : ValueRecord) (x : ℕ) → In x (taken_by (Some v)) → (is_phi (origin_of v.op.family) ≡ false) × In x v.args
taken_parts v x i = go (is_phi (origin_of v.op.family)) refl i
  where
    go : (t : Bool) → is_phi (origin_of v.op.family) ≡ t → In x (if t then [] else v.args) → (is_phi (origin_of v.op.family) ≡ false) × In x v.args
    go true e j = elim j [ ]
    go false e j = (e, j)

pub parts_taken : (v : ValueRecord) (x : ℕ) → is_phi (origin_of v.op.family) ≡ false → In x v.args → In x (taken_by (Some v))
parts_taken v x e i = rw e i

-- an argument of a live value that is no phi
pub argument_below : (s : Setting) (f : FuncRecord) → Sound s f → (b : BlockRecord) (v : ValueRecord) → HasValue f b v → IsReached f b → is_phi (origin_of v.op.family) ≡ false →
    (x : ℕ) → In x v.args → IsLive f x × Below f x v.id
argument_below s f h b v i r p x j =
    let d = arguments_defined s f h.named h.uses b b v i (no_phi v p) (defined_here f b v.id (v, i.1, refl)) x j in
    let q = home f h.named b x r d in (
      record { block = q.block; value = q.value; stands = q.stands; named = q.named; reached = q.reached },
      record {
        lower = q.block;
        upper = b;
        first = q.value;
        later = v;
        first_stands = q.stands;
        later_stands = i;
        first_is = q.named;
        later_is = refl;
        reached = r;
        dominates = q.dominates;
        way = go q (one_or_two f h.named q.block b q.stands.0 i.0);
      },
    )
  where
    needed : (q : Home f b x) → q.block ≡ b → Needs b v q.value
    needed q e =
        let P : BlockRecord → Type 0 = λ c. Contains c.values q.value in
        let R : ℕ → Type 0 = λ n. In n v.args in
        takes q.value v (subst P e q.stands.1, i.1, no_phi v p, to_contains q.value.id v.args (subst R (sym q.named) j))

    go : (q : Home f b x) → (q.block ≡ b) ⊎ ¬ (q.block ≡ b) → ¬ (q.block ≡ b) ⊎ ((q.block ≡ b) × Needs b v q.value)
    go q (inl e) = inr (e, needed q e)
    go q (inr n) = inl n

abbrev names : FuncRecord → List ℕ
names f = map (λ v. v.id) (values_of f)

same_room : (f : FuncRecord) → length (names f) ≡ room f
same_room f = length-map (values_of f) (λ (v : ValueRecord). v.id)

pub live_found : (f : FuncRecord) → IsNamed f → (n : ℕ) (l : IsLive f n) → value_of f n ≡ Some l.value
live_found f h n l = found_value f h l.block l.value n l.stands l.named

falls_down : (s : Setting) (f : FuncRecord) → Sound s f → Falls (names f) (IsLive f) (taken f) (Below f)
falls_down s f h = record {
  named = λ n l. bears n l;
  stays = λ n x l i. (step n x l i).0;
  down = λ n x l i. (step n x l i).1;
  onward = below_onward f h.named;
  apart = below_not_itself s f h;
}
  where
    bears : (n : ℕ) → IsLive f n → In n (names f)
    bears n l = (let P : ℕ → Type 0 = λ x. In x (names f) in subst P l.named (id_in l.value (values_of f) (found_in (values_of f) n l.value (live_found f h.named n l)).0))

    step : (n x : ℕ) → IsLive f n → In x (taken f n) → IsLive f x × Below f x n
    step n x l i =
        let P : Option ValueRecord → Type 0 = λ o. In x (taken_by o) in
        let q = taken_parts l.value x (subst P (live_found f h.named n l) i) in
        let r = argument_below s f h l.block l.value l.stands l.reached q.0 x q.1 in
        (r.0, (let R : ℕ → Type 0 = λ m. Below f x m in subst R l.named r.1))

pub rank_below_room : (s : Setting) (f : FuncRecord) → Sound s f → (n : ℕ) → IsLive f n → rank f n < room f
rank_below_room s f h n l =
    (let P : ℕ → Type 0 = λ k. deep k (taken f) n < k in subst P (same_room f) (rank_few (names f) (IsLive f) (taken f) (Below f) (falls_down s f h) n l))

-- what a live value takes is live and ranks below it
pub taken_falls : (s : Setting) (f : FuncRecord) → Sound s f → (n x : ℕ) → IsLive f n → In x (taken f n) → IsLive f x × (rank f x < rank f n)
taken_falls s f h n x l i = (
  (falls_down s f h).stays n x l i,
  (let P : ℕ → Type 0 = λ k. deep k (taken f) x < deep k (taken f) n in
      subst P (same_room f) (rank_falls (names f) (IsLive f) (taken f) (Below f) (falls_down s f h) n x l i)),
)

pub argument_falls : (s : Setting) (f : FuncRecord) → Sound s f → (b : BlockRecord) (v : ValueRecord) → HasValue f b v → IsReached f b → ¬ IsPhi v → (x : ℕ) → In x v.args →
    IsLive f x × (rank f x < rank f v.id)
argument_falls s f h b v i r p x j =
    taken_falls s f h v.id x (record { block = b; value = v; stands = i; named = refl; reached = r })
    (let P : Option ValueRecord → Type 0 = λ o. In x (taken_by o) in
    subst P (sym (found_value f h.named b v v.id i refl)) (parts_taken v x (not_phi v p) j))

-- what a value's number follows from is among its arguments, and a phi's number follows from none
pub input_taken : (s : Setting) (f : FuncRecord) (b : BlockRecord) (v : ValueRecord) → HasRow s f b v → (x : ℕ) → In x (inputs_by (origin_of v.op.family) v) →
    (is_phi (origin_of v.op.family) ≡ false) × In x v.args
input_taken s f b v h x i = go (origin_of v.op.family) refl i
  where
    first : (n : ℕ) → length v.args ≡ suc n → In x (slice_index v.args 0 ∷ []) → In x v.args
    first n e (inl d) = (let P : ℕ → Type 0 = λ y. In y v.args in subst P d (got_in v.args 0 (slice_index v.args 0) (first_argument v n e)))
    first n e (inr j) = elim j [ ]

    go : (o : Origin) → origin_of v.op.family ≡ o → In x (inputs_by o v) → (is_phi (origin_of v.op.family) ≡ false) × In x v.args
    go phi e j = elim j [ ]
    go argument e j = elim j [ ]
    go argument_word e j = elim j [ ]
    go result e j = elim j [ ]
    go address e j = elim j [ ]
    go loaded e j = (ap is_phi e, first 1 (load_args s f b v h (ap is_load e)).0 j)
    go checked e j = (ap is_phi e, first 1 (check_args s f b v h (ap is_check e)).0 j)
    go same e j = (ap is_phi e, first 0 (copy_args s f b v h (same_copies v e)).0 j)
    go computed e j = (ap is_phi e, j)

-- the live values have ranks
pub ranks : (s : Setting) (f : FuncRecord) → Sound s f → Ranked f (IsLive f) (rank f)
ranks s f h = record { falls = step; few = rank_below_room s f h }
  where
    step : (n : ℕ) → IsLive f n → (x : ℕ) → In x (inputs_of (value_of f n)) → IsLive f x × (rank f x < rank f n)
    step n l x i =
        let e = live_found f h.named n l in
        let P : Option ValueRecord → Type 0 = λ o. In x (inputs_of o) in
        let q = input_taken s f l.block l.value (h.rows l.block l.value l.stands) x (subst P e i) in
        let R : Option ValueRecord → Type 0 = λ o. In x (taken_by o) in
        taken_falls s f h n x l (subst R (sym e) (parts_taken l.value x q.0 q.1))

-- the numbers of a function in form solve their equations
pub numbers_solve : (s : Setting) (f : FuncRecord) → IsFormed s f → (p : Program) (e : Env) → Solves p f e (IsLive f) (numbers p f e)
numbers_solve s f h p e = solved p f e (IsLive f) (rank f) (ranks s f (sound s f h))

-- the values of a reached block have ranks there
pub block_ranks : (s : Setting) (f : FuncRecord) → Sound s f → (b : BlockRecord) → IsReached f b → HasBlock f b → BlockRanked f b (rank f)
block_ranks s f h b r k = record {
  ids = λ v i. found_here f h.named b v (here v i);
  falls = λ v u i j p t. (argument_falls s f h b v (here v i) r (no_phi v p) u.id t).1;
  few = λ v i. rank_below_room s f h v.id (record { block = b; value = v; stands = here v i; named = refl; reached = r });
}
  where
    here : (v : ValueRecord) → In v b.values → HasValue f b v
    here v i = (k, to_contains v b.values i)

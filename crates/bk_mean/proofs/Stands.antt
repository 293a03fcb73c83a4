-- The state of memory that a value names, and where it stands.
use Rattle.std.proofs.Common.{◌≡◌, ℕ, zero, suc, ◌+◌, ◌<◌, refl, ap, sym, ◌∙◌, subst, arith, ◌⊎◌, inl, inr, List, [], ◌∷◌, length, Option, Some, None, Bool, true, false}
use Rattle.std.specs.Prelude.{if◌then◌else◌, slice_get, slice_index, option_map}
use Rattle.std.specs.List.{last_or}
use Rattle.bk_ops.specs.Table.{info_of}
use Rattle.bk_ops.specs.declared.family.Family.TheVariants as op
use Rattle.bk_func.specs.Records.{ValueRecord, BlockRecord, FuncRecord}
use Rattle.bk_func.specs.Numbers.{Origin, phi, result, origin_of, room, is_memory_copy, memory_at, memory_arg, state_of}
use Rattle.bk_func.specs.Form.Text.{HasValue, Defines, IsPhi}
use Rattle.bk_func.specs.Form.Walks.{IsReached, IsDefinedAt}
use Rattle.bk_func.specs.Form.States.{CopiesMemory, StandsFor, itself, copied as through_copy, NamesAt, Names, Carries, made, kept, IsFirstState, IsStateIn}
use Rattle.bk_func.specs.Form.Before.{Needs, takes}
use Rattle.bk_func.specs.Form.Signatures.{Setting}
use Rattle.bk_func.proofs.Faults.{In}
use Rattle.bk_places.proofs.Elements.{to_contains}
use Rattle.bk_mean.proofs.Named.{IsNamed, got_in, found_value, got_index}
use Rattle.bk_mean.proofs.Dominance.{Dominates, dominates_itself, dominates_onward, one_dominates, defined_from, defined_here, home, arguments_defined}
use Rattle.bk_mean.proofs.Roles.{is_memory_copy-true, is_memory_copy-false, memory_copy, result_args, copy_args, result_calls, calls_result, first_argument}
use Rattle.bk_mean.proofs.Formed.{Sound}
use Rattle.bk_mean.proofs.Ranks.{IsLive, rank, rank_below_room, argument_falls, needs_onward}

-- copies of memory

copy_no_phi : (v : ValueRecord) → v.op.family ≡ op.Copy → ¬ IsPhi v
copy_no_phi v e p = let d = sym e ∙ p in absurd cc

one_copy : (k : ℕ) (f : FuncRecord) (v : ValueRecord) → IsNamed f → (b : BlockRecord) → HasValue f b v → CopiesMemory v → memory_at (suc k) f v.id ≡ memory_at k f (slice_index v.args 0)
one_copy k f v h b i c = rw (found_value f h b v v.id i refl, is_memory_copy-true v c) refl

no_copy : (k : ℕ) (f : FuncRecord) (v : ValueRecord) → IsNamed f → (b : BlockRecord) → HasValue f b v → ¬ CopiesMemory v → memory_at k f v.id ≡ v.id
no_copy zero f v h b i c = refl
no_copy (suc k) f v h b i c = rw (found_value f h b v v.id i refl, is_memory_copy-false v c) refl

copy_source : (s : Setting) (f : FuncRecord) → Sound s f → (b : BlockRecord) (v : ValueRecord) → HasValue f b v → CopiesMemory v → slice_get v.args 0 ≡ Some (slice_index v.args 0)
copy_source s f h b v i c = first_argument v 0 (copy_args s f b v (h.rows b v i) c.0).0

-- going through copies gives what a live number stands for
pub memory_stands : (s : Setting) (f : FuncRecord) → Sound s f → (k n m : ℕ) → IsLive f n → rank f n < k → StandsFor f n m → memory_at k f n ≡ m
memory_stands s f h zero n m l less t = absurd (omega arith)
memory_stands s f h (suc k) _ _ l less (itself b v i c) = no_copy (suc k) f v h.named b i c
memory_stands s f h (suc k) _ _ l less (through_copy b v n m i c e t) =
    let own = found_value f h.named b v v.id i refl in
    let j = got_in v.args 0 n e in
    let b' = h.named.same_block b l.block v l.value i l.stands (sym l.named) in
    let reached : IsReached f b = (let P : BlockRecord → Type 0 = λ x. IsReached f x in subst P (sym b') l.reached) in
    let q = argument_falls s f h b v i reached (copy_no_phi v c.0) n j in
    one_copy k f v h.named b i c ∙ ap (memory_at k f) (got_index v.args 0 n e)
    ∙ memory_stands s f h k n m q.0 (omega (arith, less, q.1)) t

stands_more : (s : Setting) (f : FuncRecord) → Sound s f → (k : ℕ) → ((n : ℕ) → IsLive f n → rank f n < k → StandsFor f n (memory_at k f n)) →
    (n : ℕ) → IsLive f n → rank f n < suc k → StandsFor f n (memory_at (suc k) f n)
stands_more s f h k rest n l less =
    (let P : ℕ → Type 0 = λ x. rank f x < suc k → StandsFor f x (memory_at (suc k) f x) in
    subst P l.named (go (is_memory_copy l.value) refl) less)
  where
    on : CopiesMemory l.value → StandsFor f (slice_index l.value.args 0) (memory_at k f (slice_index l.value.args 0)) → StandsFor f l.value.id (memory_at (suc k) f l.value.id)
    on c t =
        let P : ℕ → Type 0 = λ x. StandsFor f l.value.id x in
        subst P (sym (one_copy k f l.value h.named l.block l.stands c))
        (through_copy l.block l.value (slice_index l.value.args 0) (memory_at k f (slice_index l.value.args 0)) l.stands c (copy_source s f h l.block l.value l.stands c) t)

    go : (t : Bool) → is_memory_copy l.value ≡ t → rank f l.value.id < suc k → StandsFor f l.value.id (memory_at (suc k) f l.value.id)
    go true e less =
        let c = memory_copy l.value e in
        let j = got_in l.value.args 0 (slice_index l.value.args 0) (copy_source s f h l.block l.value l.stands c) in
        let q = argument_falls s f h l.block l.value l.stands l.reached (copy_no_phi l.value c.0) (slice_index l.value.args 0) j in
        on c (rest (slice_index l.value.args 0) q.0 (omega (arith, less, q.1)))
    go false e less =
        let other : ¬ CopiesMemory l.value = λ c. let d = is_memory_copy-true l.value c in absurd cc in
        let P : ℕ → Type 0 = λ x. StandsFor f l.value.id x in
        subst P (sym (no_copy (suc k) f l.value h.named l.block l.stands other)) (itself l.block l.value l.stands other)

-- and a live number stands for what going through copies gives
pub stands_memory : (s : Setting) (f : FuncRecord) → Sound s f → (k n : ℕ) → IsLive f n → rank f n < k → StandsFor f n (memory_at k f n)
stands_memory s f h zero n l less = absurd (omega arith)
stands_memory s f h (suc k) n l less = stands_more s f h k (λ x q r. stands_memory s f h k x q r) n l less

-- the state that a value names

last_got : (xs : List ℕ) (o : Option ℕ) (k n : ℕ) → k + 1 ≡ length xs → slice_get xs k ≡ Some n → last_or o xs ≡ Some n
last_got [] o k n e g = absurd cc
last_got (x ∷ []) o zero n e g = g
last_got (x ∷ []) o (suc k) n e g = absurd cc
last_got (x ∷ y ∷ ys) o zero n e g = absurd (omega (arith, e))
last_got (x ∷ y ∷ ys) o (suc k) n e g = last_got (y ∷ ys) (Some x) k n (omega (arith, e)) g

got_last : (xs : List ℕ) (n : ℕ) → last_or None xs ≡ Some n → (k : ℕ) × (k + 1 ≡ length xs) × (slice_get xs k ≡ Some n)
got_last [] n e = absurd cc
got_last (x ∷ xs) n e = go x xs n e
  where
    go : (x : ℕ) (xs : List ℕ) (n : ℕ) → last_or (Some x) xs ≡ Some n → (k : ℕ) × (k + 1 ≡ length (x ∷ xs)) × (slice_get (x ∷ xs) k ≡ Some n)
    go x [] n e = (0, omega arith, e)
    go x (y ∷ ys) n e = let r = go y ys n e in (suc r.0, omega (arith, r.1), r.2)

-- of an op with memory, but for a result, the last argument names memory
last_named : (o : Origin) (v : ValueRecord) → ¬ (o ≡ result) → (info_of v.op).memory ≡ true → memory_arg o v ≡ last_or None v.args
last_named result v n e = absurd (n refl)
last_named phi v n e = rw e refl
last_named _ v n e = rw e refl

named_at : (s : Setting) (f : FuncRecord) → Sound s f → (b : BlockRecord) (v : ValueRecord) → HasValue f b v → ¬ (v.op.family ≡ op.Copy) → (k n : ℕ) → NamesAt v k → slice_get v.args k ≡ Some n →
    memory_arg (origin_of v.op.family) v ≡ Some n
named_at s f h b v i c k n (inl (m, z)) e = absurd (c m.0)
named_at s f h b v i c k n (inr (inl (o, z))) e = ap (λ (q : Origin). memory_arg q v) (calls_result v.op.family o) ∙ ap (slice_get v.args) (sym z) ∙ e
named_at s f h b v i c k n (inr (inr (m, z))) e =
    last_named (origin_of v.op.family) v (λ r. let q = (result_args s f b v (h.rows b v i) r).1 in absurd cc) m ∙ last_got v.args None k n z e

-- a value that is neither a phi nor a copy and names a state in form names it in the meaning
pub state_named : (s : Setting) (f : FuncRecord) → Sound s f → (b : BlockRecord) (v : ValueRecord) → HasValue f b v → IsReached f b → ¬ IsPhi v → ¬ (v.op.family ≡ op.Copy) → (m : ℕ) → Names f v m →
    state_of f v ≡ Some m
state_named s f h b v i r p c m (k, n, at, e, t) =
    let l = (argument_falls s f h b v i r p n (got_in v.args k n e)).0 in
    ap (option_map (memory_at (room f) f)) (named_at s f h b v i c k n at e) ∙ ap Some (memory_stands s f h (room f) n m l (rank_below_room s f h n l) t)

pub arg_named : (s : Setting) (f : FuncRecord) → Sound s f → (b : BlockRecord) (v : ValueRecord) → HasValue f b v → (n : ℕ) → memory_arg (origin_of v.op.family) v ≡ Some n →
    (k : ℕ) × NamesAt v k × (slice_get v.args k ≡ Some n)
arg_named s f h b v i n e = go (origin_of v.op.family) refl e
  where
    by_last : (t : Bool) → (info_of v.op).memory ≡ t → (if t then last_or None v.args else None) ≡ Some n → (k : ℕ) × NamesAt v k × (slice_get v.args k ≡ Some n)
    by_last true m d = let r = got_last v.args n d in (r.0, inr (inr (m, r.1)), r.2)
    by_last false m d = absurd cc

    go : (o : Origin) → origin_of v.op.family ≡ o → memory_arg o v ≡ Some n → (k : ℕ) × NamesAt v k × (slice_get v.args k ≡ Some n)
    go result q d = (0, inr (inl (result_calls v q, refl)), d)
    go phi q d = by_last (info_of v.op).memory refl d
    go _ q d = by_last (info_of v.op).memory refl d

-- and the other way round
pub named_state : (s : Setting) (f : FuncRecord) → Sound s f → (b : BlockRecord) (v : ValueRecord) → HasValue f b v → IsReached f b → ¬ IsPhi v → (m : ℕ) → state_of f v ≡ Some m → Names f v m
named_state s f h b v i r p m e = go (memory_arg (origin_of v.op.family) v) refl e
  where
    go : (o : Option ℕ) → memory_arg (origin_of v.op.family) v ≡ o → option_map (memory_at (room f) f) o ≡ Some m → Names f v m
    go None q d = absurd cc
    go (Some n) q d =
        let a = arg_named s f h b v i n q in
        let l = (argument_falls s f h b v i r p n (got_in v.args a.0 n a.2)).0 in
        let w : memory_at (room f) f n ≡ m = cc in
        (a.0, n, a.1, a.2, (let P : ℕ → Type 0 = λ x. StandsFor f n x in subst P w (stands_memory s f h (room f) n l (rank_below_room s f h n l))))

-- where states stand

carried_from : (f : FuncRecord) (w : List BlockRecord) (m : ℕ) → Carries f w m → (b : BlockRecord) × In b w × Defines b m
carried_from f _ m (made b w _ ms c) =
    let q = (c.states m).0 (0, omega arith, refl) in
    (b, inl refl, (q.0, q.1.0.1, q.2))
carried_from f _ m (kept b w _ n c) = let q = carried_from f w m c in (q.0, inr q.1, q.2)

-- the state on all walks to a block is defined there
pub first_state_defined : (f : FuncRecord) (b : BlockRecord) (m : ℕ) → IsFirstState f b m → IsDefinedAt f b m
first_state_defined f b m h w walk = let q = carried_from f w m (h w walk) in (q.0, to_contains q.0 (b ∷ w) (inr q.1), q.2)

pub state_defined : (f : FuncRecord) (b : BlockRecord) (m : ℕ) → IsStateIn f b m → IsDefinedAt f b m
state_defined f b m (inl q) = defined_here f b m (q.0, q.1.0.1, q.2)
state_defined f b m (inr q) = first_state_defined f b m q.1

-- a state that a number stands for at a block that is dominated by the state's is the number, or is needed by it
pub needs_state : (s : Setting) (f : FuncRecord) → Sound s f → (c : BlockRecord) → IsReached f c → (u : ValueRecord) → HasValue f c u →
    (b : BlockRecord) → IsReached f b → Dominates f b c → (n m : ℕ) → IsDefinedAt f b n → StandsFor f n m → u.id ≡ m →
    (w : ValueRecord) × HasValue f c w × (w.id ≡ n) × ((w ≡ u) ⊎ Needs c w u)
needs_state s f h c rc u iu b rb over _ _ d (itself a v i other) e = (u, iu, e, inl refl)
needs_state s f h c rc u iu b rb over _ _ d (through_copy a v n m i y g t) e =
    let q = home f h.named b v.id rb d in
    let same = h.named.same_block q.block a q.value v q.stands i q.named in
    let over_a : Dominates f a b = (let P : BlockRecord → Type 0 = λ x. Dominates f x b in subst P same q.dominates) in
    let reached : IsReached f a = (let P : BlockRecord → Type 0 = λ x. IsReached f x in subst P same q.reached) in
    let j = got_in v.args 0 n g in
    let dn = arguments_defined s f h.named h.uses a a v i (copy_no_phi v y.0) (defined_here f a v.id (v, i.1, refl)) n j in
    let r = needs_state s f h c rc u iu a reached (dominates_onward f a b c over_a over) n m dn t e in
    let back : Dominates f c a = defined_from f h.named c a r.0 r.1 (let P : ℕ → Type 0 = λ x. IsDefinedAt f a x in subst P (sym r.2) dn) in
    let one : a ≡ c = one_dominates f a c rc (dominates_onward f a b c over_a over) back in
    let here : HasValue f c v = (let P : BlockRecord → Type 0 = λ x. HasValue f x v in subst P one i) in
    let taken : Needs c v r.0 = takes r.0 v (r.1.1, here.1, copy_no_phi v y.0, to_contains r.0.id v.args (let P : ℕ → Type 0 = λ x. In x v.args in subst P (sym r.2) j)) in (
      v,
      here,
      refl,
      inr (elim r.3 as (λ _. Needs c v u) [
        | inl z ↦ (let P : ValueRecord → Type 0 = λ x. Needs c v x in subst P z taken)
        | inr z ↦ needs_onward c v r.0 u taken z
      ]),
    )

-- a value that names a state of its own block needs it
pub needs_named : (s : Setting) (f : FuncRecord) → Sound s f → (c : BlockRecord) → IsReached f c → (v u : ValueRecord) → HasValue f c v → HasValue f c u → ¬ IsPhi v → (m : ℕ) → Names f v m → u.id ≡ m →
    Needs c v u
needs_named s f h c r v u i iu p m (k, n, at, got, stands) e =
    let j = got_in v.args k n got in
    let d = arguments_defined s f h.named h.uses c c v i p (defined_here f c v.id (v, i.1, refl)) n j in
    let w = needs_state s f h c r u iu c r (dominates_itself f c) n m d stands e in
    let first : Needs c v w.0 = takes w.0 v (w.1.1, i.1, p, to_contains w.0.id v.args (let P : ℕ → Type 0 = λ x. In x v.args in subst P (sym w.2) j)) in
    elim w.3 as (λ _. Needs c v u) [
      | inl y ↦ (let P : ValueRecord → Type 0 = λ x. Needs c v x in subst P y first)
      | inr y ↦ needs_onward c v w.0 u first y
    ]

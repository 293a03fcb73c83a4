-- Numbers in two programs with one machine and the same variables, and a function that stays as it is.
use Rattle.std.proofs.Common.{◌≡◌, ℕ, zero, suc, refl, ap, ◌∙◌, inl, inr, List, [], ◌∷◌, map, Option, Some, None}
use Rattle.std.specs.Prelude.{slice_index, length, ◌-◌, Bool, true, false, not, if◌then◌else◌, ◌==◌, ◌%◌}
use Rattle.std.proofs.Math.Path.{fun_ext}
use Rattle.bk_ops.specs.declared.family.Family.{Family}
use Rattle.bk_ops.specs.declared.family.Family.TheVariants.{ResWord}
use Rattle.bk_ops.specs.declared.types.Target.{Target}
use Rattle.bk_ops.specs.declared.types.Ty.{Ty}
use Rattle.bk_func.specs.declared.parts.Aux.{Aux}
use Rattle.bk_func.specs.declared.parts.Aux.TheVariants.{Sym}
use Rattle.bk_num.specs.Memory.{data_base}
use Rattle.bk_func.specs.Records.{ValueRecord, BlockRecord, FuncRecord, VarRecord}
use Rattle.bk_func.specs.Edits.{block_of}
use Rattle.bk_func.specs.Symbols.{sig_of}
use Rattle.bk_func.specs.Numbers.{Program, Env, Origin, phi, argument, argument_word, result, address, loaded, checked, same, computed, origin_of, value_of, number_by, number_of, number, numbers, room, value_in, address_of, place_of_var, state_of, callee_of, result_place, cut_result, natural}
use Rattle.bk_func.specs.Effects.{order}
use Rattle.bk_func.specs.Meaning.{Activation, first_fault, results_by, words_back, value_named, is_taken, phi_by, fresh, entered, without_memory, is_make_result, edge_place, entry_id}
use Rattle.bk_func.proofs.Faults.{In}
use Rattle.bk_func.proofs.Kept.{Alike, ValueKept, BlockKept, FuncKept, Along, Follow, BothBlocks}

-- a result stands at the same place among those of its call
place_alike : (o : Family) (p q : Program) → Alike p q → (f g : FuncRecord) (v : ValueRecord) → callee_of f v ≡ callee_of g v → result_place o p f v ≡ result_place o q g v
place_alike o p q z f g v c = place o
  where
    word : (natural v.int - length (p.places (sig_of p.pkg (callee_of f v)).args)) ≡ (natural v.int - length (q.places (sig_of q.pkg (callee_of g v)).args))
    word = rw (c, z.sigs (callee_of g v), z.places_of) refl

    place : (o : Family) → result_place o p f v ≡ result_place o q g v
    place ResWord = word
    place _ = refl

cut_alike : (o : Family) (t u : Target) (ty : Ty) (n : ℕ) → t ≡ u → cut_result o t ty n ≡ cut_result o u ty n
cut_alike o t u ty n e = ap (λ (t : Target). cut_result o t ty n) e

-- the number of a value is the same where its state is, and the function that its call names
pub number_by_alike : (o : Origin) (p q : Program) → Alike p q → p.pkg.vars ≡ q.pkg.vars → (f g : FuncRecord) (e : Env) (m : ℕ → ℕ) (v : ValueRecord) →
    state_of f v ≡ state_of g v → callee_of f v ≡ callee_of g v → number_by o p f e m v ≡ number_by o q g e m v
number_by_alike phi p q z x f g e m v h c = refl
number_by_alike argument p q z x f g e m v h c = rw z.target refl
number_by_alike argument_word p q z x f g e m v h c = refl
number_by_alike result p q z x f g e m v h c =
    cut_alike v.op.family p.target q.target v.ty (slice_index (e.given (slice_index v.args 0)) (result_place v.op.family p f v)) z.target
    ∙ ap (λ k. cut_result v.op.family q.target v.ty (slice_index (e.given (slice_index v.args 0)) k)) (place_alike v.op.family p q z f g v c)
number_by_alike address p q z x f g e m v h c = go v.aux
  where
    go : (a : Aux) → address_of p.pkg a ≡ address_of q.pkg a
    go (Sym s) = ap (λ (vs : List VarRecord). place_of_var s vs data_base) x
    go _ = refl
number_by_alike loaded p q z x f g e m v h c = rw (z.target, h) refl
number_by_alike checked p q z x f g e m v h c = refl
number_by_alike same p q z x f g e m v h c = refl
number_by_alike computed p q z x f g e m v h c = rw z.target refl

number_alike : (p q : Program) → Alike p q → p.pkg.vars ≡ q.pkg.vars → (f : FuncRecord) (e : Env) (k : ℕ) → number k p f e ≡ number k q f e
number_alike p q z x f e zero = refl
number_alike p q z x f e (suc k) = fun_ext (λ id. at (value_of f id) ∙ ap (number_of (value_of f id) q f e) (number_alike p q z x f e k))
  where
    at : (o : Option ValueRecord) → number_of o p f e (number k p f e) ≡ number_of o q f e (number k p f e)
    at None = refl
    at (Some v) = number_by_alike (origin_of v.op.family) p q z x f f e (number k p f e) v refl refl

pub numbers_alike : (p q : Program) → Alike p q → p.pkg.vars ≡ q.pkg.vars → (f : FuncRecord) (e : Env) → numbers p f e ≡ numbers q f e
numbers_alike p q z x f e = number_alike p q z x f e (room f)

pub self_follow : (V : ValueRecord → ValueRecord → Type 0) (vs : List ValueRecord) → ((v : ValueRecord) → In v vs → V v v) → Follow V vs vs
self_follow V [] h = tt
self_follow V (v ∷ vs) h = (inl (h v (inl refl)), self_follow V vs (λ u i. h u (inr i)))

-- nothing is asked along the runs of the function
pub record Anywhere (r : Along) (i : ℕ) : Type 0 where
  pub here : (id : ℕ) → r.here i id
  pub edge : (id place : ℕ) → r.edge i id place
  pub sound : (a : Activation) → r.sound i a

block_self : (p q : Program) → Alike p q → p.pkg.vars ≡ q.pkg.vars → (f : FuncRecord) (I : Activation → Type 0) (Edge : ℕ → Type 0) (b : BlockRecord) → BlockKept p q f f I Edge b b
block_self p q z x f I Edge b = record {
  kind = refl;
  succs = refl;
  values = self_follow (ValueKept p q f f b I) b.values (λ v i. record {
    stands = i;
    shape = refl;
    args = λ a s k. ap (λ (m : ℕ → ℕ). m (slice_index v.args k)) (numbers_alike p q z x f a.env);
    given = λ a s. ap (λ (m : ℕ → ℕ). map m (without_memory v.args)) (numbers_alike p q z x f a.env);
    state = refl;
  });
  phis = λ a s place e id. ap (λ (m : ℕ → ℕ). phi_by (value_in b.values id) place m (a.env.phis id)) (numbers_alike p q z x f a.env);
  first = λ s. refl;
  taken = λ a s. taken b.control a;
  results = λ a s. results (value_named f b.control) a;
  faults = λ a window s. inr (
      ap (λ (m : ℕ → ℕ). first_fault p.target m window (order f b a.memory)) (numbers_alike p q z x f a.env)
      ∙ ap (λ (t : Target). first_fault t (numbers q f a.env) window (order f b a.memory)) z.target);
}
  where
    taken : (o : Option ℕ) (a : Activation) → is_taken p f a o ≡ is_taken q f a o
    taken None a = refl
    taken (Some id) a = ap (λ (m : ℕ → ℕ). not (m id % 2 == 0)) (numbers_alike p q z x f a.env)

    back : (a : Activation) → words_back p f a ≡ words_back q f a
    back a = rw z.places_of refl

    results : (o : Option ValueRecord) (a : Activation) → results_by o p f a ≡ results_by o q f a
    results None a = back a
    results (Some v) a =
        let P : Bool → Type 0 = λ t.
        (if t then map (numbers p f a.env) (without_memory v.args) else words_back p f a)
        ≡ (if t then map (numbers q f a.env) (without_memory v.args) else words_back q f a) in
        elim (is_make_result v.op.family) as P [
          | true ↦ ap (λ (m : ℕ → ℕ). map m (without_memory v.args)) (numbers_alike p q z x f a.env)
          | false ↦ back a
        ]

block_there : (p q : Program) → Alike p q → p.pkg.vars ≡ q.pkg.vars → (f : FuncRecord) (I : Activation → Type 0) (Edge : ℕ → Type 0) (o : Option BlockRecord) → BothBlocks (BlockKept p q f f I Edge) o o
block_there p q z x f I Edge None = tt
block_there p q z x f I Edge (Some b) = block_self p q z x f I Edge b

-- the function is kept
pub unchanged : (p q : Program) (r : Along) (i : ℕ) → Alike p q → p.pkg.vars ≡ q.pkg.vars → Anywhere r i → (f : FuncRecord) → FuncKept p q r i f f
unchanged p q r i z x w f = record {
  sig = refl;
  entry = refl;
  entry_here = w.here (entry_id f.blocks);
  entry_edge = w.edge (entry_id f.blocks) 0;
  blocks = λ id h. block_there p q z x f (r.sound i) (r.edge i id) (block_of f id);
  begins = λ args stack. w.sound (fresh args stack);
  enters = λ a u id place b e h k s. w.sound (entered p f b place a u);
  does = λ enter id b e h v m a c u y s g. w.sound c;
  onward = λ id index b e h l. (w.here (slice_index b.succs index), w.edge (slice_index b.succs index) (edge_place b index (block_of f (slice_index b.succs index))));
  places = λ id index b c e d h l. ap (λ (k : BlockRecord). edge_place k index (block_of f (slice_index k.succs index))) (let y : b ≡ c = cc in y);
}

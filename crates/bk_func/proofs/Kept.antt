-- A function whose values have changed and whose numbers are the same does the same, unless it was wild.
use Rattle.std.proofs.Common.{◌≡◌, ℕ, zero, suc, refl, subst, ap, sym, ◌∙◌, ◌⊎◌, inl, inr, List, [], ◌∷◌, length, map, Option, Some, None, Bool, true, false, cond, ◌&&◌, ◌==◌}
use Rattle.std.specs.Prelude.{filter, find, count_by, position, if◌then◌else◌, slice_index, slice_get, nat_lt, ◌-◌}
use Rattle.std.specs.List.{AllZip}
use Rattle.std.proofs.Math.Path.{fun_ext}
use Rattle.std.proofs.lemmas.List.Sums.{length-filter}
use Rattle.bk_ops.specs.declared.types.Target.{Target}
use Rattle.bk_func.specs.declared.parts.Kind.{Kind}
use Rattle.bk_func.specs.declared.parts.Kind.TheVariants.{Plain, If, First, Ret, Exit}
use Rattle.bk_func.specs.Records.{ValueRecord, BlockRecord, FuncRecord}
use Rattle.bk_func.specs.Edits.{block_of}
use Rattle.bk_func.specs.Symbols.{panic_divide, panic_shift, symbol_of, sig_of}
use Rattle.bk_func.specs.Numbers.{Program, Origin, phi, argument, argument_word, result, address, loaded, checked, same, computed, origin_of, state_of, numbers, room, value_in}
use Rattle.bk_func.specs.Effects.{Effect, store, zeros, move, panic_bounds, call, call_words, out_word, ret_word, ret_words, trap, pass, effect_of, has_effect, is_check, is_load, is_at, checks_at, loads_at, next_at, onward, chain, chain_from, needs, order}
use Rattle.bk_func.specs.Meaning.{trapped, World, Run, gives, stops, bind, Activation, Entries, Calls, with_given, words_sent, fault_at, fault_by, first_fault, checked_at, done_by, done_at, in_state, without_memory, performed, first_state, phi_by, entered, edge_place, onto, results_by, value_named, is_taken, left_by, fresh, entry_id, begun_in, begun, begun_at, called, in_block, in_func, at_count, one_entry, run}
use Rattle.bk_func.proofs.Runs.{Keeps, keeps_bind, Same, Points, EntriesKept, run_kept}
use Rattle.bk_func.proofs.Faults.{In, in-filter, Mild, IsClosed, order_mild, halted_kept}

-- programs that call alike
pub record Alike (p q : Program) : Type 0 where
  pub target : p.target ≡ q.target
  pub places_of : p.places ≡ q.places
  pub frames : p.frames ≡ q.frames
  pub sigs : (s : ℕ) → sig_of p.pkg s ≡ sig_of q.pkg s
  pub places : (s : ℕ) → position (λ g. g.name == s) p.pkg.funcs ≡ position (λ g. g.name == s) q.pkg.funcs

-- a value that changed its arguments alone, for others of the same numbers
pub record ValueKept (p q : Program) (f g : FuncRecord) (b : BlockRecord) (I : Activation → Type 0) (v v' : ValueRecord) : Type 0 where
  pub stands : In v b.values
  pub shape : record v { args = v'.args } ≡ v'
  pub args : (a : Activation) → I a → (k : ℕ) → numbers p f a.env (slice_index v.args k) ≡ numbers q g a.env (slice_index v'.args k)
  pub given : (a : Activation) → I a → map (numbers p f a.env) (without_memory v.args) ≡ map (numbers q g a.env) (without_memory v'.args)
  pub state : state_of f v ≡ state_of g v'

abbrev pub CallsKept : Calls → Calls → Type 0
CallsKept calls calls' = (s : ℕ) (args : List ℕ) (stack : ℕ) (w : World) → Keeps Same (calls s args stack w) (calls' s args stack w)

abbrev Equal : Activation → Activation → Type 0
Equal a b = a ≡ b

keeps_eq : (r q : Run Activation) → r ≡ q → Keeps Equal r q
keeps_eq r q e = subst (λ x. Keeps Equal r x) e (own r)
  where
    own : (r : Run Activation) → Keeps Equal r r
    own (gives a w) = inr (refl, refl)
    own (stops o d) = inr (refl, refl)

-- the numbers of a value's arguments agree
pub record SameArgs (m n : ℕ → ℕ) (v : ValueRecord) (xs : List ℕ) : Type 0 where
  pub each : (k : ℕ) → m (slice_index v.args k) ≡ n (slice_index xs k)
  pub given : map m (without_memory v.args) ≡ map n (without_memory xs)

done_by_kept : (e : Option Effect) (p q : Program) → Alike p q → (calls calls' : Calls) → CallsKept calls calls' → (m n : ℕ → ℕ) (v : ValueRecord) (xs : List ℕ) →
    SameArgs m n v xs → (a : Activation) (w : World) → Keeps Equal (done_by e calls p m v a w) (done_by e calls' q n (record v { args = xs }) a w)
done_by_kept None p q z calls calls' k m n v xs h a w = keeps_eq (done_by None calls p m v a w) (done_by None calls' q n (record v { args = xs }) a w) refl
done_by_kept (Some store) p q z calls calls' k m n v xs h a w =
    keeps_eq (done_by (Some store) calls p m v a w) (done_by (Some store) calls' q n (record v { args = xs }) a w) (rw (h.each 0, h.each 1, z.target) refl)
done_by_kept (Some zeros) p q z calls calls' k m n v xs h a w =
    keeps_eq (done_by (Some zeros) calls p m v a w) (done_by (Some zeros) calls' q n (record v { args = xs }) a w) (rw (h.each 0, z.target) refl)
done_by_kept (Some move) p q z calls calls' k m n v xs h a w =
    keeps_eq (done_by (Some move) calls p m v a w) (done_by (Some move) calls' q n (record v { args = xs }) a w) (rw (h.each 0, h.each 1, z.target) refl)
done_by_kept (Some panic_bounds) p q z calls calls' k m n v xs h a w = inr (refl, refl)
done_by_kept (Some call) p q z calls calls' k m n v xs h a w =
    keeps_bind Same Equal (calls (symbol_of v.aux) (map m (without_memory v.args)) a.stack w) (calls' (symbol_of v.aux) (map n (without_memory xs)) a.stack w)
    (λ results w. gives (with_given a v.id results) w) (λ results w. gives (with_given a v.id results) w)
    (rw h.given (k (symbol_of v.aux) (map n (without_memory xs)) a.stack w))
    (λ x y w e. inr (ap (with_given a v.id) e, refl))
done_by_kept (Some call_words) p q z calls calls' k m n v xs h a w =
    let s = symbol_of v.aux in
    let args = words_sent q (sig_of q.pkg s) (map n (without_memory xs)) a.out in
    rw (z.sigs s, z.places_of, h.given)
    (keeps_bind Same Equal (calls s args a.stack w) (calls' s args a.stack w)
    (λ results w. gives (record (with_given a v.id results) { out = λ k. 0 }) w) (λ results w. gives (record (with_given a v.id results) { out = λ k. 0 }) w)
    (k s args a.stack w)
    (λ x y w e. inr (ap (λ (r : List ℕ). record (with_given a v.id r) { out = λ k. 0 }) e, refl)))
done_by_kept (Some out_word) p q z calls calls' k m n v xs h a w =
    keeps_eq (done_by (Some out_word) calls p m v a w) (done_by (Some out_word) calls' q n (record v { args = xs }) a w) (rw (h.each 0) refl)
done_by_kept (Some ret_word) p q z calls calls' k m n v xs h a w =
    keeps_eq (done_by (Some ret_word) calls p m v a w) (done_by (Some ret_word) calls' q n (record v { args = xs }) a w) (rw (h.each 0) refl)
done_by_kept (Some ret_words) p q z calls calls' k m n v xs h a w =
    keeps_eq (done_by (Some ret_words) calls p m v a w) (done_by (Some ret_words) calls' q n (record v { args = xs }) a w) (rw h.given refl)
done_by_kept (Some trap) p q z calls calls' k m n v xs h a w = inr (refl, refl)
done_by_kept (Some pass) p q z calls calls' k m n v xs h a w = inr (refl, refl)

-- a value that no memory value, no check and no load is
pub record IsQuiet (v : ValueRecord) : Type 0 where
  pub check : is_check (origin_of v.op.family) ≡ false
  pub load : is_load (origin_of v.op.family) ≡ false
  pub effect : has_effect v ≡ false

abbrev pub AllQuiet : List ValueRecord → Type 0
AllQuiet [] = Unit {0}
AllQuiet (v ∷ vs) = IsQuiet v × AllQuiet vs

-- values that go together by V, quiet values aside, and more quiet values after them
abbrev pub Follow : (ValueRecord → ValueRecord → Type 0) → List ValueRecord → List ValueRecord → Type 0
Follow V [] cs = AllQuiet cs
Follow V (v ∷ vs) [] = ⊥
Follow V (v ∷ vs) (c ∷ cs) = (V v c ⊎ (IsQuiet v × IsQuiet c)) × Follow V vs cs

-- a test that sees no quiet value, and the same of values that go together
record Sees (V : ValueRecord → ValueRecord → Type 0) (t u : ValueRecord → Bool) : Type 0 where
  pair : (v c : ValueRecord) → V v c → t v ≡ u c
  left : (v : ValueRecord) → IsQuiet v → t v ≡ false
  right : (v : ValueRecord) → IsQuiet v → u v ≡ false

quiet_filter : (V : ValueRecord → ValueRecord → Type 0) (t u : ValueRecord → Bool) → Sees V t u → (cs : List ValueRecord) → AllQuiet cs → filter u cs ≡ []
quiet_filter V t u s [] q = refl
quiet_filter V t u s (c ∷ cs) (h, q) = rw (s.right c h) (quiet_filter V t u s cs q)

filter_follow : (V : ValueRecord → ValueRecord → Type 0) (t u : ValueRecord → Bool) → Sees V t u → (vs cs : List ValueRecord) → Follow V vs cs → AllZip V (filter t vs) (filter u cs)
filter_follow V t u s [] cs h = rw (quiet_filter V t u s cs h) tt
filter_follow V t u s (v ∷ vs) [] h = elim h [ ]
filter_follow V t u s (v ∷ vs) (c ∷ cs) (inl h, hs) = rw (s.pair v c h) (go (u c) (filter_follow V t u s vs cs hs))
  where
    go : (b : Bool) → AllZip V (filter t vs) (filter u cs) → AllZip V (cond b (v ∷ filter t vs) (filter t vs)) (cond b (c ∷ filter u cs) (filter u cs))
    go true z = (h, z)
    go false z = z
filter_follow V t u s (v ∷ vs) (c ∷ cs) (inr (h, k), hs) = rw (s.left v h, s.right c k) (filter_follow V t u s vs cs hs)

abbrev Found : (ValueRecord → ValueRecord → Type 0) → Option ValueRecord → Option ValueRecord → Type 0
Found V None None = Unit {0}
Found V None (Some c) = ⊥
Found V (Some v) None = ⊥
Found V (Some v) (Some c) = V v c

quiet_find : (V : ValueRecord → ValueRecord → Type 0) (t u : ValueRecord → Bool) → Sees V t u → (cs : List ValueRecord) → AllQuiet cs → find u cs ≡ None
quiet_find V t u s [] q = refl
quiet_find V t u s (c ∷ cs) (h, q) = rw (s.right c h) (quiet_find V t u s cs q)

find_follow : (V : ValueRecord → ValueRecord → Type 0) (t u : ValueRecord → Bool) → Sees V t u → (vs cs : List ValueRecord) → Follow V vs cs → Found V (find t vs) (find u cs)
find_follow V t u s [] cs h = rw (quiet_find V t u s cs h) tt
find_follow V t u s (v ∷ vs) [] h = elim h [ ]
find_follow V t u s (v ∷ vs) (c ∷ cs) (inl h, hs) = rw (s.pair v c h) (go (u c) (find_follow V t u s vs cs hs))
  where
    go : (b : Bool) → Found V (find t vs) (find u cs) → Found V (cond b (Some v) (find t vs)) (cond b (Some c) (find u cs))
    go true z = h
    go false z = z
find_follow V t u s (v ∷ vs) (c ∷ cs) (inr (h, k), hs) = rw (s.left v h, s.right c k) (find_follow V t u s vs cs hs)

zip_length : (V : ValueRecord → ValueRecord → Type 0) (vs cs : List ValueRecord) → AllZip V vs cs → length vs ≡ length cs
zip_length V [] [] z = refl
zip_length V [] (c ∷ cs) z = elim z [ ]
zip_length V (v ∷ vs) [] z = elim z [ ]
zip_length V (v ∷ vs) (c ∷ cs) (h, z) = ap suc (zip_length V vs cs z)

count_follow : (V : ValueRecord → ValueRecord → Type 0) (t u : ValueRecord → Bool) → Sees V t u → (vs cs : List ValueRecord) → Follow V vs cs → count_by t vs ≡ count_by u cs
count_follow V t u s vs cs h =
    sym (length-filter t vs) ∙ zip_length V (filter t vs) (filter u cs) (filter_follow V t u s vs cs h) ∙ length-filter u cs

-- blocks whose values go together, with the same kind, edges and control
pub record BlockKept (p q : Program) (f g : FuncRecord) (I : Activation → Type 0) (Edge : ℕ → Type 0) (b c : BlockRecord) : Type 0 where
  pub kind : b.kind ≡ c.kind
  pub succs : b.succs ≡ c.succs
  pub values : Follow (ValueKept p q f g b I) b.values c.values
  pub phis : (a : Activation) → I a → (place : ℕ) → Edge place → (id : ℕ) →
      phi_by (value_in b.values id) place (numbers p f a.env) (a.env.phis id) ≡ phi_by (value_in c.values id) place (numbers q g a.env) (a.env.phis id)
  pub first : (s : ℕ) → first_state b s ≡ first_state c s
  pub taken : (a : Activation) → I a → is_taken p f a b.control ≡ is_taken q g a c.control
  pub results : (a : Activation) → I a → results_by (value_named f b.control) p f a ≡ results_by (value_named g c.control) q g a
  pub faults : (a : Activation) (window : List ℕ) → I a →
      Mild (first_fault p.target (numbers p f a.env) window (order f b a.memory)) (first_fault q.target (numbers q g a.env) window (order g c a.memory))

op_kept : (p q : Program) (f g : FuncRecord) (b : BlockRecord) (I : Activation → Type 0) (v v' : ValueRecord) → ValueKept p q f g b I v v' → (t : ValueRecord → Bool) →
    ((v : ValueRecord) (xs : List ℕ) → t v ≡ t (record v { args = xs })) → t v ≡ t v'
op_kept p q f g b I v v' k t h = h v v'.args ∙ ap t k.shape

sees_checks : (p q : Program) (f g : FuncRecord) (b : BlockRecord) (I : Activation → Type 0) (s : ℕ) → Sees (ValueKept p q f g b I)
    (λ v. is_check (origin_of v.op.family) && is_at (state_of f v) s) (λ v. is_check (origin_of v.op.family) && is_at (state_of g v) s)
sees_checks p q f g b I s = record {
  pair = λ v c k. ap (λ o. is_check (origin_of v.op.family) && is_at o s) k.state ∙ ap (λ o. o && is_at (state_of g c) s) (op_kept p q f g b I v c k (λ v. is_check (origin_of v.op.family)) (λ v xs. refl));
  left = λ v h. ap (λ o. o && is_at (state_of f v) s) h.check;
  right = λ v h. ap (λ o. o && is_at (state_of g v) s) h.check;
}

sees_loads : (p q : Program) (f g : FuncRecord) (b : BlockRecord) (I : Activation → Type 0) (s : ℕ) → Sees (ValueKept p q f g b I)
    (λ v. is_load (origin_of v.op.family) && is_at (state_of f v) s) (λ v. is_load (origin_of v.op.family) && is_at (state_of g v) s)
sees_loads p q f g b I s = record {
  pair = λ v c k. ap (λ o. is_load (origin_of v.op.family) && is_at o s) k.state ∙ ap (λ o. o && is_at (state_of g c) s) (op_kept p q f g b I v c k (λ v. is_load (origin_of v.op.family)) (λ v xs. refl));
  left = λ v h. ap (λ o. o && is_at (state_of f v) s) h.load;
  right = λ v h. ap (λ o. o && is_at (state_of g v) s) h.load;
}

sees_effects : (p q : Program) (f g : FuncRecord) (b : BlockRecord) (I : Activation → Type 0) → Sees (ValueKept p q f g b I) has_effect has_effect
sees_effects p q f g b I = record { pair = λ v c k. op_kept p q f g b I v c k has_effect (λ v xs. refl); left = λ v h. h.effect; right = λ v h. h.effect }

sees_next : (p q : Program) (f g : FuncRecord) (b : BlockRecord) (I : Activation → Type 0) (s : ℕ) → Sees (ValueKept p q f g b I)
    (λ v. has_effect v && is_at (state_of f v) s) (λ v. has_effect v && is_at (state_of g v) s)
sees_next p q f g b I s = record {
  pair = λ v c k. ap (λ o. has_effect v && is_at o s) k.state ∙ ap (λ o. o && is_at (state_of g c) s) (op_kept p q f g b I v c k has_effect (λ v xs. refl));
  left = λ v h. ap (λ o. o && is_at (state_of f v) s) h.effect;
  right = λ v h. ap (λ o. o && is_at (state_of g v) s) h.effect;
}

-- the memory values of the two blocks go together
chain_kept : (p q : Program) (f g : FuncRecord) (I : Activation → Type 0) (b c : BlockRecord) → Follow (ValueKept p q f g b I) b.values c.values → (k s : ℕ) →
    AllZip (ValueKept p q f g b I) (chain k f b s) (chain k g c s)
unfolding chain
chain_kept p q f g I b c h zero s = tt
chain_kept p q f g I b c h (suc k) s =
    go (next_at f b s) (next_at g c s) (find_follow (ValueKept p q f g b I) (λ v. has_effect v && is_at (state_of f v) s) (λ v. has_effect v && is_at (state_of g v) s) (sees_next p q f g b I s) b.values c.values h)
    (λ s. chain_kept p q f g I b c h k s)
  where
    go : (o u : Option ValueRecord) → Found (ValueKept p q f g b I) o u → ((s : ℕ) → AllZip (ValueKept p q f g b I) (chain k f b s) (chain k g c s)) →
        AllZip (ValueKept p q f g b I) (onward o (chain k f b)) (onward u (chain k g c))
    go None None z r = tt
    go None (Some y) z r = elim z [ ]
    go (Some x) None z r = elim z [ ]
    go (Some x) (Some y) z r = (z, rw (← ap (λ (v : ValueRecord). v.id) z.shape) (r x.id))

chains_kept : (p q : Program) (f g : FuncRecord) (I : Activation → Type 0) (b c : BlockRecord) → Follow (ValueKept p q f g b I) b.values c.values → (s : ℕ) →
    AllZip (ValueKept p q f g b I) (chain_from f b s) (chain_from g c s)
chains_kept p q f g I b c h s =
    rw (← count_follow (ValueKept p q f g b I) has_effect has_effect (sees_effects p q f g b I) b.values c.values h) (chain_kept p q f g I b c h (count_by has_effect b.values) s)

-- activations that are the same and keep I
abbrev Sound : (Activation → Type 0) → Activation → Activation → Type 0
Sound I a b = (a ≡ b) × I a

abbrev pub Gives : {A : Type 0} → Run A → A → World → Type 0
Gives (gives a w) b v = (a ≡ b) × (w ≡ v)
Gives (stops o d) b v = ⊥

with_sound : (I : Activation → Type 0) (r q : Run Activation) → Keeps Equal r q → ((a : Activation) (w : World) → Gives r a w → I a) → Keeps (Sound I) r q
with_sound I (gives a w) q (inl h) k = elim h [ ]
with_sound I (gives a w) (gives b v) (inr (x, e)) k = inr ((x, k a w (refl, refl)), e)
with_sound I (gives a w) (stops u d) (inr h) k = elim h [ ]
with_sound I (stops o d) q (inl h) k = inl h
with_sound I (stops o d) (gives b v) (inr h) k = elim h [ ]
with_sound I (stops o d) (stops u c) (inr e) k = inr e

-- what a value does keeps I
abbrev pub Does : Calls → Program → FuncRecord → BlockRecord → (Activation → Type 0) → Type 0
Does calls p f b I = (v : ValueRecord) → In v b.values → (a c : Activation) (w x : World) → I a → Gives (done_at calls p f v a w) c x → I c

done_kept : (p q : Program) → Alike p q → (f g : FuncRecord) (b : BlockRecord) (I : Activation → Type 0) (calls calls' : Calls) → CallsKept calls calls' → Does calls p f b I →
    (v v' : ValueRecord) → ValueKept p q f g b I v v' → (a : Activation) (w : World) → I a → Keeps (Sound I) (done_at calls p f v a w) (done_at calls' q g v' a w)
done_kept p q z f g b I calls calls' k does v v' h a w i =
    with_sound I (done_at calls p f v a w) (done_at calls' q g v' a w)
    ((let P : ValueRecord → Type 0 = λ u. Keeps Equal (done_at calls p f v a w) (done_at calls' q g u a w) in subst P h.shape
    (keeps_bind Equal Equal (done_by (effect_of v.op.family v.ty) calls p (numbers p f a.env) v a w) (done_by (effect_of v.op.family v.ty) calls' q (numbers q g a.env) (record v { args = v'.args }) a w)
    (λ a w. gives (in_state v.id a w) w) (λ a w. gives (in_state v.id a w) w)
    (done_by_kept (effect_of v.op.family v.ty) p q z calls calls' k (numbers p f a.env) (numbers q g a.env) v v'.args (record { each = h.args a i; given = h.given a i }) a w)
    (λ x y u e. inr (ap (λ (r : Activation). in_state v.id r u) e, refl)))))
    (λ c x e. does v h.stands a c w x i e)

pub fault_same : (o : Origin) (t : Target) (m n : ℕ → ℕ) (d : List ℕ) (v : ValueRecord) (xs : List ℕ) → m (slice_index v.args 0) ≡ n (slice_index xs 0) →
    fault_by o t m d v ≡ fault_by o t n d (record v { args = xs })
fault_same phi t m n d v xs e = refl
fault_same argument t m n d v xs e = refl
fault_same argument_word t m n d v xs e = refl
fault_same result t m n d v xs e = refl
fault_same address t m n d v xs e = refl
fault_same loaded t m n d v xs e = rw e refl
fault_same checked t m n d v xs e = rw e refl
fault_same same t m n d v xs e = refl
fault_same computed t m n d v xs e = refl

loads_only : (f : FuncRecord) (s : ℕ) (vs : List ValueRecord) (x : ValueRecord) → In x (filter (λ v. is_load (origin_of v.op.family) && is_at (state_of f v) s) vs) → origin_of x.op.family ≡ loaded
loads_only f s vs x i = go (origin_of x.op.family) (in-filter (λ v. is_load (origin_of v.op.family) && is_at (state_of f v) s) x vs i).1
  where
    go : (o : Origin) → (is_load o && is_at (state_of f x) s) ≡ true → o ≡ loaded
    go loaded e = refl
    go phi e = absurd cc
    go argument e = absurd cc
    go argument_word e = absurd cc
    go result e = absurd cc
    go address e = absurd cc
    go checked e = absurd cc
    go same e = absurd cc
    go computed e = absurd cc

-- faults are kept where no value of the second block needs more loads
pub fewer_faults : (p q : Program) → p.target ≡ q.target → (f g : FuncRecord) (I : Activation → Type 0) (b c : BlockRecord) → Follow (ValueKept p q f g b I) b.values c.values →
    ((v v' u u' : ValueRecord) → ValueKept p q f g b I v v' → ValueKept p q f g b I u u' → needs (room g) c (Some v') u'.id ≡ true → needs (room f) b (Some v) u.id ≡ true) →
    ((v v' : ValueRecord) (s : ℕ) → ValueKept p q f g b I v v' → IsClosed g c (loads_at g c s) v') →
    (a : Activation) (window : List ℕ) → I a →
    Mild (first_fault p.target (numbers p f a.env) window (order f b a.memory)) (first_fault q.target (numbers q g a.env) window (order g c a.memory))
fewer_faults p q t f g I b c h needed closed a window i =
    let P : Target → Type 0 = λ t. Mild (first_fault t (numbers p f a.env) window (order f b a.memory)) (first_fault q.target (numbers q g a.env) window (order g c a.memory)) in
    subst P (sym t) (order_mild (ValueKept p q f g b I) q.target (numbers p f a.env) (numbers q g a.env) window f g b c
    (checks_at f b a.memory) (checks_at g c a.memory) (loads_at f b a.memory) (loads_at g c a.memory)
    (filter_follow (ValueKept p q f g b I) _ _ (sees_checks p q f g b I a.memory) b.values c.values h)
    (record {
      zipped = filter_follow (ValueKept p q f g b I) _ _ (sees_loads p q f g b I a.memory) b.values c.values h;
      are_loads = loads_only f a.memory b.values;
      fault = λ v v' k. fault_same (origin_of v.op.family) q.target (numbers p f a.env) (numbers q g a.env) window v v'.args (k.args a i 0)
          ∙ ap (fault_at q.target (numbers q g a.env) window) k.shape;
      needed = needed;
      closed = λ v v' k. closed v v' a.memory k;
    }))

checked_kept : (p q : Program) (f g : FuncRecord) (I : Activation → Type 0) (Edge : ℕ → Type 0) (b c : BlockRecord) → BlockKept p q f g I Edge b c →
    (a : Activation) (w : World) → I a → Keeps (Sound I) (checked_at p f b a w) (checked_at q g c a w)
checked_kept p q f g I Edge b c h a w i = halted_kept (Sound I) _ _ a a w (h.faults a w.window i) (refl, i)

performed_kept : (p q : Program) → Alike p q → (f g : FuncRecord) (I : Activation → Type 0) (Edge : ℕ → Type 0) (b c : BlockRecord) → BlockKept p q f g I Edge b c →
    (calls calls' : Calls) → CallsKept calls calls' → Does calls p f b I → (vs cs : List ValueRecord) → AllZip (ValueKept p q f g b I) vs cs →
    (a : Activation) (w : World) → I a → Keeps (Sound I) (performed calls p f b vs a w) (performed calls' q g c cs a w)
performed_kept p q z f g I Edge b c h calls calls' k does [] [] u a w i = checked_kept p q f g I Edge b c h a w i
performed_kept p q z f g I Edge b c h calls calls' k does [] (y ∷ ys) u a w i = elim u [ ]
performed_kept p q z f g I Edge b c h calls calls' k does (x ∷ xs) [] u a w i = elim u [ ]
performed_kept p q z f g I Edge b c h calls calls' k does (x ∷ xs) (y ∷ ys) (v, u) a w i =
    keeps_bind (Sound I) (Sound I) (checked_at p f b a w) (checked_at q g c a w)
    (λ a w. bind (done_at calls p f x a w) (λ a w. performed calls p f b xs a w)) (λ a w. bind (done_at calls' q g y a w) (λ a w. performed calls' q g c ys a w))
    (checked_kept p q f g I Edge b c h a w i)
    (λ a a' w s. (let P : Activation → Type 0 = λ e. Keeps (Sound I) (bind (done_at calls p f x a w) (λ a w. performed calls p f b xs a w)) (bind (done_at calls' q g y e w) (λ a w. performed calls' q g c ys a w)) in subst P s.0
    (keeps_bind (Sound I) (Sound I) (done_at calls p f x a w) (done_at calls' q g y a w)
    (λ a w. performed calls p f b xs a w) (λ a w. performed calls' q g c ys a w)
    (done_kept p q z f g b I calls calls' k does x y v a w s.1)
    (λ e e' w r. (let Q : Activation → Type 0 = λ d. Keeps (Sound I) (performed calls p f b xs e w) (performed calls' q g c ys d w) in subst Q r.0
    (performed_kept p q z f g I Edge b c h calls calls' k does xs ys u e w r.1))))))

-- edges that a block may be left by
abbrev pub Leaves : Kind → ℕ → Type 0
Leaves Plain index = index ≡ 0
Leaves First index = index ≡ 0
Leaves If index = (index ≡ 0) ⊎ (index ≡ 1)
Leaves Ret index = ⊥
Leaves Exit index = ⊥

abbrev pub BothBlocks : (BlockRecord → BlockRecord → Type 0) → Option BlockRecord → Option BlockRecord → Type 0
BothBlocks R None None = Unit {0}
BothBlocks R None (Some c) = ⊥
BothBlocks R (Some b) None = ⊥
BothBlocks R (Some b) (Some c) = R b c

-- what holds along the runs of each function: of the blocks that are entered, of the edges, and of the call
pub record Along : Type 1 where
  pub here : ℕ → ℕ → Type 0
  pub edge : ℕ → ℕ → ℕ → Type 0
  pub sound : ℕ → Activation → Type 0

-- a function whose blocks are kept wherever runs of it come
pub record FuncKept (p q : Program) (r : Along) (i : ℕ) (f g : FuncRecord) : Type 0 where
  pub sig : f.sig ≡ g.sig
  pub entry : entry_id f.blocks ≡ entry_id g.blocks
  pub entry_here : r.here i (entry_id f.blocks)
  pub entry_edge : r.edge i (entry_id f.blocks) 0
  pub blocks : (id : ℕ) → r.here i id → BothBlocks (BlockKept p q f g (r.sound i) (r.edge i id)) (block_of f id) (block_of g id)
  pub begins : (args : List ℕ) (stack : ℕ) → r.sound i (fresh args stack)
  pub enters : (a : Activation) (w : World) (id place : ℕ) (b : BlockRecord) → block_of f id ≡ Some b → r.here i id → r.edge i id place → r.sound i a → r.sound i (entered p f b place a w)
  pub does : (enter : Entries) (id : ℕ) (b : BlockRecord) → block_of f id ≡ Some b → r.here i id → Does (called enter p) p f b (r.sound i)
  pub onward : (id index : ℕ) (b : BlockRecord) → block_of f id ≡ Some b → r.here i id → Leaves b.kind index →
      r.here i (slice_index b.succs index) × r.edge i (slice_index b.succs index) (edge_place b index (block_of f (slice_index b.succs index)))
  pub places : (id index : ℕ) (b c : BlockRecord) → block_of f id ≡ Some b → block_of g id ≡ Some c → r.here i id → Leaves b.kind index →
      edge_place b index (block_of f (slice_index b.succs index)) ≡ edge_place c index (block_of g (slice_index c.succs index))

abbrev BothFuncs : (FuncRecord → FuncRecord → Type 0) → Option FuncRecord → Option FuncRecord → Type 0
BothFuncs R None None = Unit {0}
BothFuncs R None (Some g) = ⊥
BothFuncs R (Some f) None = ⊥
BothFuncs R (Some f) (Some g) = R f g

pub record ProgramKept (p q : Program) (r : Along) : Type 0 where
  pub alike : Alike p q
  pub funcs : (i : ℕ) → BothFuncs (FuncKept p q r i) (slice_get p.pkg.funcs i) (slice_get q.pkg.funcs i)

-- the same call at the same block by the same edge
abbrev SamePoint : Along → Points
SamePoint r i a b id place place' = (a ≡ b) × (place ≡ place') × r.sound i a × r.here i id × r.edge i id place

abbrev PointsKept : Along → Entries → Entries → Type 0
PointsKept r enter enter' = (i : ℕ) (a : Activation) (id place : ℕ) (w : World) → r.sound i a → r.here i id → r.edge i id place → Keeps Same (enter i a id place w) (enter' i a id place w)

-- calls

begun_kept : (p q : Program) (r : Along) → ProgramKept p q r → (enter enter' : Entries) → PointsKept r enter enter' → (i : ℕ) (args : List ℕ) (stack : ℕ) (w : World) →
    Keeps Same (begun enter p i args stack w) (begun enter' q i args stack w)
begun_kept p q r z enter enter' k i args stack w = go (slice_get p.pkg.funcs i) (slice_get q.pkg.funcs i) (z.funcs i)
  where
    go : (o u : Option FuncRecord) → BothFuncs (FuncKept p q r i) o u → Keeps Same (begun_in o enter p i args stack w) (begun_in u enter' q i args stack w)
    go None None h = inr (refl, refl)
    go None (Some g) h = elim h [ ]
    go (Some f) None h = elim h [ ]
    go (Some f) (Some g) h =
        let start = fresh args (stack - slice_index p.frames i) in
        let P : Bool → Type 0 = λ b. Keeps Same
        (if b then stops (trapped 5) w.window else enter i start (entry_id f.blocks) 0 w)
        (if b then stops (trapped 5) w.window else enter' i start (entry_id f.blocks) 0 w) in
        rw (← z.alike.frames, ← h.entry)
        (elim (nat_lt stack (slice_index p.frames i)) as P [
          | true ↦ inr (refl, refl)
          | false ↦ k i start (entry_id f.blocks) 0 w (h.begins args (stack - slice_index p.frames i)) h.entry_here h.entry_edge
        ])

called_kept : (p q : Program) (r : Along) → ProgramKept p q r → (enter enter' : Entries) → PointsKept r enter enter' → CallsKept (called enter p) (called enter' q)
called_kept p q r z enter enter' k s args stack w = rw (← z.alike.places s) (go (s == panic_divide) (s == panic_shift) (position (λ g. g.name == s) p.pkg.funcs))
  where
    at : (o : Option ℕ) → Keeps Same (begun_at o (begun enter p) args stack w) (begun_at o (begun enter' q) args stack w)
    at None = inr (refl, refl)
    at (Some i) = begun_kept p q r z enter enter' k i args stack w

    go : (b c : Bool) (o : Option ℕ) → Keeps Same
        (if b then stops (trapped 3) w.window else (if c then stops (trapped 4) w.window else begun_at o (begun enter p) args stack w))
        (if b then stops (trapped 3) w.window else (if c then stops (trapped 4) w.window else begun_at o (begun enter' q) args stack w))
    go true c o = inr (refl, refl)
    go false true o = inr (refl, refl)
    go false false o = at o

-- blocks

entered_kept : (p q : Program) (f g : FuncRecord) (I : Activation → Type 0) (Edge : ℕ → Type 0) (b c : BlockRecord) → BlockKept p q f g I Edge b c → (place : ℕ) (a : Activation) (w : World) →
    I a → Edge place → entered p f b place a w ≡ entered q g c place a w
entered_kept p q f g I Edge b c h place a w i e =
    ap (λ s. in_state s (record a { env = record a.env { phis = λ id. phi_by (value_in b.values id) place (numbers p f a.env) (a.env.phis id) } }) w) (h.first a.memory)
    ∙ ap (λ (x : ℕ → ℕ). in_state (first_state c a.memory) (record a { env = record a.env { phis = x } }) w) (fun_ext (λ id. h.phis a i place e id))

left_kept : (p q : Program) (r : Along) (i : ℕ) (f g : FuncRecord) (id : ℕ) (b c : BlockRecord) (enter enter' : Entries) → PointsKept r enter enter' →
    BlockKept p q f g (r.sound i) (r.edge i id) b c →
    ((index : ℕ) → Leaves b.kind index → r.here i (slice_index b.succs index) × r.edge i (slice_index b.succs index) (edge_place b index (block_of f (slice_index b.succs index)))) →
    ((index : ℕ) → Leaves b.kind index → edge_place b index (block_of f (slice_index b.succs index)) ≡ edge_place c index (block_of g (slice_index c.succs index))) →
    (a : Activation) (w : World) → r.sound i a → Keeps Same (left_by b.kind enter p i f b a w) (left_by c.kind enter' q i g c a w)
left_kept p q r i f g id b c enter enter' k h on alike a w s =
    (let P : Kind → Type 0 = λ kind. Keeps Same (left_by b.kind enter p i f b a w) (left_by kind enter' q i g c a w) in subst P h.kind (go b.kind on alike))
  where
    edge : (index : ℕ) → r.here i (slice_index b.succs index) × r.edge i (slice_index b.succs index) (edge_place b index (block_of f (slice_index b.succs index))) →
        edge_place b index (block_of f (slice_index b.succs index)) ≡ edge_place c index (block_of g (slice_index c.succs index)) →
        Keeps Same (onto enter i f b index a w) (onto enter' i g c index a w)
    edge index l e =
        (let Q : ℕ → Type 0 = λ x. Keeps Same (onto enter i f b index a w) (enter' i a x (edge_place c index (block_of g (slice_index c.succs index))) w) in
        let P : ℕ → Type 0 = λ n. Keeps Same (onto enter i f b index a w) (enter' i a (slice_index b.succs index) n w) in
        subst Q (ap (λ (xs : List ℕ). slice_index xs index) h.succs) (subst P e (k i a (slice_index b.succs index) (edge_place b index (block_of f (slice_index b.succs index))) w s l.0 l.1)))

    choose : (t u : Bool) → t ≡ u → (x y : Run (List ℕ)) (x' y' : Run (List ℕ)) → Keeps Same x x' → Keeps Same y y' → Keeps Same (if t then x else y) (if u then x' else y')
    choose true u e x y x' y' m n = rw (← e) m
    choose false u e x y x' y' m n = rw (← e) n

    go : (kind : Kind) →
        ((index : ℕ) → Leaves kind index → r.here i (slice_index b.succs index) × r.edge i (slice_index b.succs index) (edge_place b index (block_of f (slice_index b.succs index)))) →
        ((index : ℕ) → Leaves kind index → edge_place b index (block_of f (slice_index b.succs index)) ≡ edge_place c index (block_of g (slice_index c.succs index))) →
        Keeps Same (left_by kind enter p i f b a w) (left_by kind enter' q i g c a w)
    go Plain on alike = edge 0 (on 0 refl) (alike 0 refl)
    go First on alike = edge 0 (on 0 refl) (alike 0 refl)
    go If on alike =
        choose (is_taken p f a b.control) (is_taken q g a c.control) (h.taken a s) (onto enter i f b 0 a w) (onto enter i f b 1 a w) (onto enter' i g c 0 a w) (onto enter' i g c 1 a w)
        (edge 0 (on 0 (inl refl)) (alike 0 (inl refl))) (edge 1 (on 1 (inr refl)) (alike 1 (inr refl)))
    go Ret on alike = inr (h.results a s, refl)
    go Exit on alike = inr (refl, refl)

block_kept : (p q : Program) (r : Along) → ProgramKept p q r → (i : ℕ) (f g : FuncRecord) → FuncKept p q r i f g → (enter enter' : Entries) → PointsKept r enter enter' →
    (id place : ℕ) (a : Activation) (w : World) → r.sound i a → r.here i id → r.edge i id place →
    Keeps Same (in_block (block_of f id) enter p i f a place w) (in_block (block_of g id) enter' q i g a place w)
block_kept p q r z i f g h enter enter' k id place a w s l e = go (block_of f id) (block_of g id) refl refl (h.blocks id l)
  where
    go : (o u : Option BlockRecord) → block_of f id ≡ o → block_of g id ≡ u → BothBlocks (BlockKept p q f g (r.sound i) (r.edge i id)) o u →
        Keeps Same (in_block o enter p i f a place w) (in_block u enter' q i g a place w)
    go None None x y t = inr (refl, refl)
    go None (Some c) x y t = elim t [ ]
    go (Some b) None x y t = elim t [ ]
    go (Some b) (Some c) x y t =
        let start = entered p f b place a w in
        let P : Activation → Type 0 = λ d. Keeps Same
        (bind (performed (called enter p) p f b (chain_from f b start.memory) start w) (left_by b.kind enter p i f b))
        (bind (performed (called enter' q) q g c (chain_from g c d.memory) d w) (left_by c.kind enter' q i g c)) in
        subst P (entered_kept p q f g (r.sound i) (r.edge i id) b c t place a w s e)
        (keeps_bind (Sound (r.sound i)) Same (performed (called enter p) p f b (chain_from f b start.memory) start w) (performed (called enter' q) q g c (chain_from g c start.memory) start w)
        (left_by b.kind enter p i f b) (left_by c.kind enter' q i g c)
        (performed_kept p q z.alike f g (r.sound i) (r.edge i id) b c t (called enter p) (called enter' q) (called_kept p q r z enter enter' k) (h.does enter id b x l)
        (chain_from f b start.memory) (chain_from g c start.memory) (chains_kept p q f g (r.sound i) b c t.values start.memory) start w (h.enters a w id place b x l e s))
        (λ d d' v m. (let Q : Activation → Type 0 = λ y. Keeps Same (left_by b.kind enter p i f b d v) (left_by c.kind enter' q i g c y v) in subst Q m.0
        (left_kept p q r i f g id b c enter enter' k t (λ index j. h.onward id index b x l j) (λ index j. h.places id index b c x y l j) d v m.1))))

entry_kept : (p q : Program) (r : Along) → ProgramKept p q r → (enter enter' : Entries) → EntriesKept (SamePoint r) enter enter' → EntriesKept (SamePoint r) (one_entry enter p) (one_entry enter' q)
entry_kept p q r z enter enter' k i a b id place place' w (e, d, s, l, m) =
    (let P : Activation → Type 0 = λ y. Keeps Same (one_entry enter p i a id place w) (one_entry enter' q i y id place' w) in subst P e
    ((let Q : ℕ → Type 0 = λ n. Keeps Same (one_entry enter p i a id place w) (one_entry enter' q i a id n w) in subst Q d
    (count w.left))))
  where
    points : PointsKept r enter enter'
    points j c n o v x y t = k j c c n o o v (refl, refl, x, y, t)

    func : (o u : Option FuncRecord) → BothFuncs (FuncKept p q r i) o u → (w : World) → Keeps Same (in_func o enter p i a id place w) (in_func u enter' q i a id place w)
    func None None h w = inr (refl, refl)
    func None (Some g) h w = elim h [ ]
    func (Some f) None h w = elim h [ ]
    func (Some f) (Some g) h w = block_kept p q r z i f g h enter enter' points id place a w s l m

    count : (n : ℕ) → Keeps Same (at_count n w (in_func (slice_get p.pkg.funcs i) enter p i a id place)) (at_count n w (in_func (slice_get q.pkg.funcs i) enter' q i a id place))
    count zero = inr (refl, refl)
    count (suc n) = func (slice_get p.pkg.funcs i) (slice_get q.pkg.funcs i) (z.funcs i) (record w { left = n })

-- unless it was wild, the program does the same
pub program_kept : (p q : Program) (r : Along) → ProgramKept p q r → (n i : ℕ) (args window : List ℕ) (stack : ℕ) →
    Keeps Same (begun (run n p) p i args stack (record { window = window; left = n })) (begun (run n q) q i args stack (record { window = window; left = n }))
program_kept p q r z n i args window stack =
    begun_kept p q r z (run n p) (run n q)
    (λ j a id place w s l e. run_kept (SamePoint r) p q (entry_kept p q r z) n j a a id place place w (refl, refl, s, l, e))
    i args stack (record { window = window; left = n })

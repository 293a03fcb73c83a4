-- A program whose functions stand for those of another one means the same, where these are in strict form: runs of the two go on with
-- numbers that agree in their low bits.
use Rattle.std.proofs.Common.{◌≡◌, ℕ, zero, suc, ◌%◌, ◌^◌, refl, ap, sym, ◌∙◌, subst, inl, inr, List, [], ◌∷◌, Option, Some, None, Bool, true, false}
use Rattle.std.specs.Prelude.{slice_get, slice_index, position, if◌then◌else◌, nat_lt, not, ◌==◌, ◌-◌}
use Rattle.std.specs.List.{AllZip}
use Rattle.bk_ops.specs.declared.types.Ty.{Ty}
use Rattle.bk_func.specs.declared.parts.Kind.{Kind}
use Rattle.bk_func.specs.declared.parts.Kind.TheVariants.{Plain, If, First, Ret, Exit}
use Rattle.bk_func.specs.Records.{ValueRecord, BlockRecord, FuncRecord, SigRecord, PackageRecord}
use Rattle.bk_func.specs.Edits.{block_of}
use Rattle.bk_func.specs.Symbols.{panic_divide, panic_shift, symbol_of, sig_of_some, sig_of}
use Rattle.bk_func.specs.Traps.{trap_divide, trap_shift, trap_stack}
use Rattle.bk_func.specs.Words.{fitted}
use Rattle.bk_func.specs.Numbers.{Program, Env, numbers}
use Rattle.bk_func.specs.Effects.{Effect, store, zeros, move, panic_bounds, call, call_words, out_word, ret_word, ret_words, trap, pass, effect_of, chain_from, order}
use Rattle.bk_func.specs.Meaning.{Outcome, returned, wild, ended, trapped, going, World, Run, gives, stops, bind, Activation, Entries, Calls, put, first_fault, checked_at, done_by, done_at, in_state, performed, first_state, entered, edge_place, onto, results_by, value_named, is_taken, left_by, fresh, fitted_run, entry_id, begun_in, begun, begun_at, called, in_block, in_func, at_count, one_entry, run}
use Rattle.bk_func.proofs.Faults.{In, Mild, halted_kept}
use Rattle.bk_func.proofs.Runs.{IsWildOutcome, Keeps, keeps_bind, Same}
use Rattle.bk_func.proofs.Kept.{BothBlocks}
use Rattle.bk_refine_laws.specs.Sees.{RunWidths, AfterLow, FitSame, LowCall, LowNumbers, LowCalls, SeesLow, With, FuncLow, BothFuncs, ProgramLow, IsTame, MeansTheSame}
use Rattle.bk_refine_laws.specs.Possible.{Possible}
use Rattle.bk_refine_laws.specs.Refines.{DoAlike, results_from, BlockRefines}

-- ---- one memory value in two packages with the same signatures
done_in : (e : Option Effect) (p : Program) (k : PackageRecord) → ((s : ℕ) → sig_of p.pkg s ≡ sig_of k s) → (calls : Calls) (m : ℕ → ℕ) (v : ValueRecord) (a : Activation) (w : World) →
    done_by e calls p m v a w ≡ done_by e calls (With p k) m v a w
done_in None p k h calls m v a w = refl
done_in (Some store) p k h calls m v a w = refl
done_in (Some zeros) p k h calls m v a w = refl
done_in (Some move) p k h calls m v a w = refl
done_in (Some panic_bounds) p k h calls m v a w = refl
done_in (Some call) p k h calls m v a w = refl
done_in (Some call_words) p k h calls m v a w = rw (h (symbol_of v.aux)) refl
done_in (Some out_word) p k h calls m v a w = refl
done_in (Some ret_word) p k h calls m v a w = refl
done_in (Some ret_words) p k h calls m v a w = refl
done_in (Some trap) p k h calls m v a w = refl
done_in (Some pass) p k h calls m v a w = refl

-- ---- states
put_same : {A : Type 0} (g h : ℕ → A) (n m : ℕ) (x : A) → g ≡ h → n ≡ m → put g n x ≡ put h m x
put_same {A} g h n m x e d = ap (λ (z : ℕ → A). put z n x) e ∙ ap (λ i. put h i x) d

-- ---- one block
-- the chains of two blocks, wherever numbers are possible
abbrev Zipped : Program → FuncRecord → List ValueRecord → List ValueRecord → Type 0
Zipped p g us vs = (e : Env) (n : ℕ → ℕ) → Possible p g e n → AllZip (DoAlike p n) us vs

done_low : (p : Program) (k : PackageRecord) (f g : FuncRecord) (held : ℕ → Type 0) (width : RunWidths) → FuncLow p k f g held width → ((s : ℕ) → sig_of p.pkg s ≡ sig_of k s) → (calls calls' : Calls) → LowCalls p calls calls' →
    (id : ℕ) (b : BlockRecord) → block_of f id ≡ Some b → (s : ℕ) (u v : ValueRecord) → In u (chain_from f b s) → (a a' : Activation) (w : World) → LowCall width a a' → DoAlike p (numbers (With p k) g a'.env) u v →
    Keeps (LowCall width) (done_at calls p f u a w) (done_at calls' (With p k) g v a' w)
done_low p k f g held width h sigs calls calls' c id b d s u v i a a' w l z =
    let n : ℕ → ℕ = numbers (With p k) g a'.env in
    let m : ℕ → ℕ = numbers p f a.env in
    let low : LowNumbers held width.env.value m n = h.sees.agree a.env a'.env m n (h.sees.own a.env) (h.refines.possible a'.env n (h.own a'.env)) l.env in
    let e : done_by (effect_of u.op.family u.ty) calls' p n u a' w ≡ done_by (effect_of v.op.family v.ty) calls' (With p k) n v a' w =
    z.1 calls' a' w ∙ done_in (effect_of v.op.family v.ty) p k sigs calls' n v a' w in
    keeps_bind (AfterLow width u.id) (LowCall width) (done_by (effect_of u.op.family u.ty) calls p m u a w) (done_by (effect_of v.op.family v.ty) calls' (With p k) n v a' w)
    (λ a w. gives (in_state u.id a w) w) (λ a w. gives (in_state v.id a w) w)
    (subst (λ (r : Run Activation). Keeps (AfterLow width u.id) (done_by (effect_of u.op.family u.ty) calls p m u a w) r) e ((h.sees.blocks m n low id b d).effects calls calls' c s u i a a' w l))
    (λ x y w q. inr (subst (λ i. LowCall width (in_state u.id x w) (in_state i y w)) z.0 (q w), refl))

checked_low : (p : Program) (k : PackageRecord) (f g : FuncRecord) (held : ℕ → Type 0) (width : RunWidths) → FuncLow p k f g held width → (id : ℕ) (b c : BlockRecord) → block_of f id ≡ Some b →
    ((e : Env) (n : ℕ → ℕ) → Possible p g e n → BlockRefines p f g n b c) → (a a' : Activation) (w : World) → LowCall width a a' → Keeps (LowCall width) (checked_at p f b a w) (checked_at (With p k) g c a' w)
checked_low p k f g held width h id b c d r a a' w l =
    let n : ℕ → ℕ = numbers (With p k) g a'.env in
    let m : ℕ → ℕ = numbers p f a.env in
    let low : LowNumbers held width.env.value m n = h.sees.agree a.env a'.env m n (h.sees.own a.env) (h.refines.possible a'.env n (h.own a'.env)) l.env in
    halted_kept (LowCall width) (first_fault p.target m w.window (order f b a.memory)) (first_fault p.target n w.window (order g c a'.memory)) a a' w
    (subst (λ o. Mild o (first_fault p.target n w.window (order g c a'.memory))) (sym ((h.sees.blocks m n low id b d).faults w.window a.memory))
    (subst (λ s. Mild (first_fault p.target n w.window (order f b a.memory)) (first_fault p.target n w.window (order g c s))) l.memory ((r a'.env n (h.own a'.env)).faults w.window a.memory)))
    l

performed_low : (p : Program) (k : PackageRecord) (f g : FuncRecord) (held : ℕ → Type 0) (width : RunWidths) → FuncLow p k f g held width → ((s : ℕ) → sig_of p.pkg s ≡ sig_of k s) → (calls calls' : Calls) → LowCalls p calls calls' →
    (id : ℕ) (b c : BlockRecord) → block_of f id ≡ Some b → ((e : Env) (n : ℕ → ℕ) → Possible p g e n → BlockRefines p f g n b c) → (s : ℕ) (us vs : List ValueRecord) →
    ((u : ValueRecord) → In u us → In u (chain_from f b s)) → Zipped p g us vs → (a a' : Activation) (w : World) → LowCall width a a' →
    Keeps (LowCall width) (performed calls p f b us a w) (performed calls' (With p k) g c vs a' w)
performed_low p k f g held width h sigs calls calls' t id b c d r s [] [] i z a a' w l = checked_low p k f g held width h id b c d r a a' w l
performed_low p k f g held width h sigs calls calls' t id b c d r s [] (v ∷ vs) i z a a' w l = (let y = z a'.env (numbers (With p k) g a'.env) (h.own a'.env) in elim y [ ])
performed_low p k f g held width h sigs calls calls' t id b c d r s (u ∷ us) [] i z a a' w l = (let y = z a'.env (numbers (With p k) g a'.env) (h.own a'.env) in elim y [ ])
performed_low p k f g held width h sigs calls calls' t id b c d r s (u ∷ us) (v ∷ vs) i z a a' w l =
    keeps_bind (LowCall width) (LowCall width) (checked_at p f b a w) (checked_at (With p k) g c a' w)
    (λ a w. bind (done_at calls p f u a w) (λ a w. performed calls p f b us a w)) (λ a w. bind (done_at calls' (With p k) g v a w) (λ a w. performed calls' (With p k) g c vs a w))
    (checked_low p k f g held width h id b c d r a a' w l)
    (λ x x' w q. keeps_bind (LowCall width) (LowCall width) (done_at calls p f u x w) (done_at calls' (With p k) g v x' w)
    (λ a w. performed calls p f b us a w) (λ a w. performed calls' (With p k) g c vs a w)
    (done_low p k f g held width h sigs calls calls' t id b d s u v (i u (inl refl)) x x' w q (z x'.env (numbers (With p k) g x'.env) (h.own x'.env)).0)
    (λ y y' w o. performed_low p k f g held width h sigs calls calls' t id b c d r s us vs (λ j m. i j (inr m)) (λ e n j. (z e n j).1) y y' w o))

-- a block is entered
entered_low : (p : Program) (k : PackageRecord) (f g : FuncRecord) (held : ℕ → Type 0) (width : RunWidths) → FuncLow p k f g held width → (id : ℕ) (b c : BlockRecord) → block_of f id ≡ Some b →
    ((e : Env) (n : ℕ → ℕ) → Possible p g e n → BlockRefines p f g n b c) → (place : ℕ) (a a' : Activation) (w : World) → LowCall width a a' → LowCall width (entered p f b place a w) (entered (With p k) g c place a' w)
entered_low p k f g held width h id b c d r place a a' w l =
    let n : ℕ → ℕ = numbers (With p k) g a'.env in
    let m : ℕ → ℕ = numbers p f a.env in
    let low : LowNumbers held width.env.value m n = h.sees.agree a.env a'.env m n (h.sees.own a.env) (h.refines.possible a'.env n (h.own a'.env)) l.env in
    let block : BlockRefines p f g n b c = r a'.env n (h.own a'.env) in
    let state : first_state b a.memory ≡ first_state c a'.memory = ap (first_state b) l.memory ∙ block.first a'.memory in
    record {
      env = record {
        args = l.env.args;
        phis = λ x. (h.sees.blocks m n low id b d).phis x place (a.env.phis x) (a'.env.phis x) (l.env.phis x) ∙ ap (λ z. z % 2 ^ width.env.value x) (block.phis x place (a'.env.phis x));
        given = l.env.given;
        windows = put_same a.env.windows a'.env.windows (first_state b a.memory) (first_state c a'.memory) w.window l.env.windows state;
      };
      memory = state;
      out = (h.sees.blocks m n low id b d).enters a a' l;
      back = l.back;
      regs = l.regs;
      stack = l.stack;
    }

-- ---- how a block is left
-- entries of a function's blocks
abbrev EntersLow : Program → FuncRecord → RunWidths → ℕ → Entries → Entries → Type 0
EntersLow p f width i enter enter' = (a a' : Activation) (id place : ℕ) (w : World) → LowCall width a a' → Keeps (FitSame p f.sig.results) (enter i a id place w) (enter' i a' id place w)

results_are : (o : Option ValueRecord) (p : Program) (f : FuncRecord) (a : Activation) → results_by o p f a ≡ results_from o p f (numbers p f a.env) a
results_are None p f a = refl
results_are (Some v) p f a = refl

results_in : (o : Option ValueRecord) (p : Program) (k : PackageRecord) (f : FuncRecord) (m : ℕ → ℕ) (a : Activation) → results_from o (With p k) f m a ≡ results_from o p f m a
results_in None p k f m a = refl
results_in (Some v) p k f m a = refl

place_low : (p : Program) (f g : FuncRecord) (n : ℕ → ℕ) (b c : BlockRecord) (index : ℕ) (o u : Option BlockRecord) → b.id ≡ c.id → b.succs ≡ c.succs → BothBlocks (BlockRefines p f g n) o u → edge_place b index o ≡ edge_place c index u
place_low p f g n b c index None None i s h = refl
place_low p f g n b c index None (Some y) i s h = elim h [ ]
place_low p f g n b c index (Some x) None i s h = elim h [ ]
place_low p f g n b c index (Some x) (Some y) i s h = rw (i, s, h.preds) refl

left_low : (p : Program) (k : PackageRecord) (i : ℕ) (f g : FuncRecord) (held : ℕ → Type 0) (width : RunWidths) → FuncLow p k f g held width → (enter enter' : Entries) → EntersLow p f width i enter enter' →
    (id : ℕ) (b c : BlockRecord) → block_of f id ≡ Some b → ((e : Env) (n : ℕ → ℕ) → Possible p g e n → BlockRefines p f g n b c) → (a a' : Activation) (w : World) → LowCall width a a' →
    Keeps (FitSame p f.sig.results) (left_by b.kind enter p i f b a w) (left_by c.kind enter' (With p k) i g c a' w)
left_low p k i f g held width h enter enter' goes id b c d r a a' w l =
    (let P : Kind → Type 0 = λ kind. Keeps (FitSame p f.sig.results) (left_by b.kind enter p i f b a w) (left_by kind enter' (With p k) i g c a' w) in subst P block.kind (by b.kind))
  where
    n : ℕ → ℕ
    n = numbers (With p k) g a'.env

    m : ℕ → ℕ
    m = numbers p f a.env

    low : LowNumbers held width.env.value m n
    low = h.sees.agree a.env a'.env m n (h.sees.own a.env) (h.refines.possible a'.env n (h.own a'.env)) l.env

    block : BlockRefines p f g n b c
    block = r a'.env n (h.own a'.env)

    edge : (index : ℕ) → Keeps (FitSame p f.sig.results) (onto enter i f b index a w) (onto enter' i g c index a' w)
    edge index =
        let s : slice_index b.succs index ≡ slice_index c.succs index = ap (λ (xs : List ℕ). slice_index xs index) block.succs in
        let e : edge_place b index (block_of f (slice_index b.succs index)) ≡ edge_place c index (block_of g (slice_index c.succs index)) =
        place_low p f g n b c index (block_of f (slice_index b.succs index)) (block_of g (slice_index b.succs index)) block.number block.succs (h.refines.blocks a'.env n (h.own a'.env) (slice_index b.succs index))
        ∙ ap (λ z. edge_place c index (block_of g z)) s in
        let Q : ℕ → Type 0 = λ x. Keeps (FitSame p f.sig.results) (onto enter i f b index a w) (enter' i a' x (edge_place c index (block_of g (slice_index c.succs index))) w) in
        let R : ℕ → Type 0 = λ x. Keeps (FitSame p f.sig.results) (onto enter i f b index a w) (enter' i a' (slice_index b.succs index) x w) in
        subst Q s (subst R e (goes a a' (slice_index b.succs index) (edge_place b index (block_of f (slice_index b.succs index))) w l))

    taken : (o u : Option ℕ) → b.control ≡ o → o ≡ u → is_taken p f a o ≡ is_taken (With p k) g a' u
    taken None None e q = refl
    taken None (Some y) e q = absurd cc
    taken (Some x) None e q = absurd cc
    taken (Some x) (Some y) e q = (let z : x ≡ y = cc in ap (λ t. not (t == 0)) ((h.sees.blocks m n low id b d).taken x e) ∙ ap (λ j. not (n j % 2 == 0)) z)

    choose : (t u : Bool) → t ≡ u → (x y x' y' : Run (List ℕ)) → Keeps (FitSame p f.sig.results) x x' → Keeps (FitSame p f.sig.results) y y' → Keeps (FitSame p f.sig.results) (if t then x else y) (if u then x' else y')
    choose true u e x y x' y' z v = rw (← e) z
    choose false u e x y x' y' z v = rw (← e) v

    returns : FitSame p f.sig.results (results_by (value_named f b.control) p f a) (results_by (value_named g c.control) (With p k) g a')
    returns =
        ap (fitted p.target (p.places f.sig.results)) (results_are (value_named f b.control) p f a)
        ∙ (h.sees.blocks m n low id b d).results a a' l
        ∙ ap (fitted p.target (p.places f.sig.results)) (block.results a')
        ∙ ap (fitted p.target (p.places f.sig.results)) (sym (results_are (value_named g c.control) (With p k) g a' ∙ results_in (value_named g c.control) p k g n a'))

    by : (kind : Kind) → Keeps (FitSame p f.sig.results) (left_by kind enter p i f b a w) (left_by kind enter' (With p k) i g c a' w)
    by Plain = edge 0
    by First = edge 0
    by If = choose (is_taken p f a b.control) (is_taken (With p k) g a' c.control) (taken b.control c.control refl block.control) (onto enter i f b 0 a w) (onto enter i f b 1 a w) (onto enter' i g c 0 a' w) (onto enter' i g c 1 a' w) (edge 0) (edge 1)
    by Ret = inr (returns, refl)
    by Exit = inr (refl, refl)

-- ---- calls
abbrev PointsLow : Program → (ℕ → RunWidths) → Entries → Entries → Type 0
PointsLow p width enter enter' = (i : ℕ) (f : FuncRecord) → slice_get p.pkg.funcs i ≡ Some f → EntersLow p f (width i) i enter enter'

begun_low : (p : Program) (k : PackageRecord) (held : ℕ → ℕ → Type 0) (width : ℕ → RunWidths) → ProgramLow p k held width → (enter enter' : Entries) → PointsLow p width enter enter' →
    (i : ℕ) (sig : SigRecord) (args args' : List ℕ) (stack : ℕ) (w : World) → ((f : FuncRecord) → slice_get p.pkg.funcs i ≡ Some f → sig ≡ f.sig) → FitSame p sig.args args args' →
    Keeps (FitSame p sig.results) (begun enter p i args stack w) (begun enter' (With p k) i args' stack w)
begun_low p k held width z enter enter' goes i sig args args' stack w named e = go (slice_get p.pkg.funcs i) (slice_get k.funcs i) refl (z.funcs i)
  where
    rest : ℕ
    rest = stack - slice_index p.frames i

    fresh_low : (f : FuncRecord) → SeesLow p f (held i) (width i) → FitSame p f.sig.args args args' → LowCall (width i) (fresh args rest) (fresh args' rest)
    fresh_low f h d = record {
      env = record { args = h.begins args args' d; phis = λ id. refl; given = λ id j. refl; windows = refl };
      memory = refl;
      out = λ j. refl;
      back = λ j. refl;
      regs = record { length = refl; each = λ j. refl };
      stack = refl;
    }

    enough : (f : FuncRecord) (b : Bool) (x y : Run (List ℕ)) → Keeps (FitSame p f.sig.results) x y →
        Keeps (FitSame p f.sig.results) (if b then stops (trapped trap_stack) w.window else x) (if b then stops (trapped trap_stack) w.window else y)
    enough f true x y h = inr (refl, refl)
    enough f false x y h = h

    go : (o u : Option FuncRecord) → slice_get p.pkg.funcs i ≡ o → BothFuncs (λ f g. FuncLow p k f g (held i) (width i)) o u → Keeps (FitSame p sig.results) (begun_in o enter p i args stack w) (begun_in u enter' (With p k) i args' stack w)
    go None None q h = inr (refl, refl)
    go None (Some g) q h = elim h [ ]
    go (Some f) None q h = elim h [ ]
    go (Some f) (Some g) q h =
        let d : FitSame p f.sig.args args args' = subst (λ (s : SigRecord). FitSame p s.args args args') (named f q) e in
        let run' : ℕ → Run (List ℕ) = λ id. enter' i (fresh args' rest) id 0 w in
        subst (λ (s : SigRecord). Keeps (FitSame p s.results) (begun_in (Some f) enter p i args stack w) (begun_in (Some g) enter' (With p k) i args' stack w)) (sym (named f q))
        (enough f (nat_lt stack (slice_index p.frames i)) (enter i (fresh args rest) (entry_id f.blocks) 0 w) (run' (entry_id g.blocks))
        (subst (λ id. Keeps (FitSame p f.sig.results) (enter i (fresh args rest) (entry_id f.blocks) 0 w) (run' id)) h.refines.entry
        (goes i f q (fresh args rest) (fresh args' rest) (entry_id f.blocks) 0 w (fresh_low f h.sees d))))

called_low : (p : Program) (k : PackageRecord) (held : ℕ → ℕ → Type 0) (width : ℕ → RunWidths) → ProgramLow p k held width → (enter enter' : Entries) → PointsLow p width enter enter' → LowCalls p (called enter p) (called enter' (With p k))
called_low p k held width z enter enter' goes s args args' stack w e = rw (← z.places s) (go (s == panic_divide) (s == panic_shift) (position (λ g. g.name == s) p.pkg.funcs) refl)
  where
    results : List Ty
    results = (sig_of p.pkg s).results

    at : (o : Option ℕ) → position (λ g. g.name == s) p.pkg.funcs ≡ o → Keeps (FitSame p results) (begun_at o (begun enter p) args stack w) (begun_at o (begun enter' (With p k)) args' stack w)
    at None q = inr (refl, refl)
    at (Some i) q = begun_low p k held width z enter enter' goes i (sig_of p.pkg s) args args' stack w (λ f d. z.named s i f q d) e

    go : (b c : Bool) (o : Option ℕ) → position (λ g. g.name == s) p.pkg.funcs ≡ o → Keeps (FitSame p results)
        (if b then stops (trapped trap_divide) w.window else (if c then stops (trapped trap_shift) w.window else begun_at o (begun enter p) args stack w))
        (if b then stops (trapped trap_divide) w.window else (if c then stops (trapped trap_shift) w.window else begun_at o (begun enter' (With p k)) args' stack w))
    go true c o q = inr (refl, refl)
    go false true o q = inr (refl, refl)
    go false false o q = at o q

-- ---- blocks and runs
block_low : (p : Program) (k : PackageRecord) (i : ℕ) (f g : FuncRecord) (held : ℕ → Type 0) (width : RunWidths) → FuncLow p k f g held width → ((s : ℕ) → sig_of p.pkg s ≡ sig_of k s) → (enter enter' : Entries) →
    EntersLow p f width i enter enter' → LowCalls p (called enter p) (called enter' (With p k)) → (a a' : Activation) (id place : ℕ) (w : World) → LowCall width a a' →
    Keeps (FitSame p f.sig.results) (in_block (block_of f id) enter p i f a place w) (in_block (block_of g id) enter' (With p k) i g a' place w)
block_low p k i f g held width h sigs enter enter' goes calls a a' id place w l =
    go (block_of f id) (block_of g id) refl refl (h.refines.blocks a'.env (numbers (With p k) g a'.env) (h.own a'.env) id)
  where
    every : (b c : BlockRecord) → block_of f id ≡ Some b → block_of g id ≡ Some c → (e : Env) (n : ℕ → ℕ) → Possible p g e n → BlockRefines p f g n b c
    every b c x y e n q =
        subst (λ o. BothBlocks (BlockRefines p f g n) (Some b) o) y (subst (λ o. BothBlocks (BlockRefines p f g n) o (block_of g id)) x (h.refines.blocks e n q id))

    go : (o u : Option BlockRecord) → block_of f id ≡ o → block_of g id ≡ u → BothBlocks (BlockRefines p f g (numbers (With p k) g a'.env)) o u →
        Keeps (FitSame p f.sig.results) (in_block o enter p i f a place w) (in_block u enter' (With p k) i g a' place w)
    go None None x y t = inr (refl, refl)
    go None (Some c) x y t = elim t [ ]
    go (Some b) None x y t = elim t [ ]
    go (Some b) (Some c) x y t =
        let start : Activation = entered p f b place a w in
        let start' : Activation = entered (With p k) g c place a' w in
        let low : LowCall width start start' = entered_low p k f g held width h id b c x (every b c x y) place a a' w l in
        keeps_bind (LowCall width) (FitSame p f.sig.results) (performed (called enter p) p f b (chain_from f b start.memory) start w) (performed (called enter' (With p k)) (With p k) g c (chain_from g c start'.memory) start' w)
        (left_by b.kind enter p i f b) (left_by c.kind enter' (With p k) i g c)
        (performed_low p k f g held width h sigs (called enter p) (called enter' (With p k)) calls id b c x (every b c x y) start.memory (chain_from f b start.memory) (chain_from g c start'.memory) (λ u j. j)
        (λ e n q. subst (λ s. AllZip (DoAlike p n) (chain_from f b start.memory) (chain_from g c s)) low.memory ((every b c x y e n q).chain start.memory)) start start' w low)
        (λ d d' v m. left_low p k i f g held width h enter enter' goes id b c x (every b c x y) d d' v m)

entry_low : (p : Program) (k : PackageRecord) (held : ℕ → ℕ → Type 0) (width : ℕ → RunWidths) → ProgramLow p k held width → (enter enter' : Entries) → PointsLow p width enter enter' →
    PointsLow p width (one_entry enter p) (one_entry enter' (With p k))
entry_low p k held width z enter enter' goes i f d a a' id place w l = count w.left
  where
    func : (o u : Option FuncRecord) → slice_get p.pkg.funcs i ≡ o → BothFuncs (λ f g. FuncLow p k f g (held i) (width i)) o u → (w : World) →
        Keeps (FitSame p f.sig.results) (in_func o enter p i a id place w) (in_func u enter' (With p k) i a' id place w)
    func None None q h w = inr (refl, refl)
    func None (Some y) q h w = elim h [ ]
    func (Some x) None q h w = elim h [ ]
    func (Some x) (Some y) q h w =
        let e : x ≡ f = (let s : Some x ≡ Some f = sym q ∙ d in cc) in
        subst (λ (t : FuncRecord). Keeps (FitSame p t.sig.results) (in_block (block_of x id) enter p i x a place w) (in_block (block_of y id) enter' (With p k) i y a' place w)) e
        (block_low p k i x y (held i) (width i) h z.sigs enter enter' (goes i x q) (called_low p k held width z enter enter' goes) a a' id place w l)

    count : (m : ℕ) → Keeps (FitSame p f.sig.results) (at_count m w (in_func (slice_get p.pkg.funcs i) enter p i a id place)) (at_count m w (in_func (slice_get k.funcs i) enter' (With p k) i a' id place))
    count zero = inr (refl, refl)
    count (suc m) = func (slice_get p.pkg.funcs i) (slice_get k.funcs i) refl (z.funcs i) (record w { left = m })

run_low : (p : Program) (k : PackageRecord) (held : ℕ → ℕ → Type 0) (width : ℕ → RunWidths) → ProgramLow p k held width → (n : ℕ) → PointsLow p width (run n p) (run n (With p k))
unfolding run
run_low p k held width z zero i f d a a' id place w l = inr (refl, refl)
run_low p k held width z (suc n) i f d a a' id place w l = entry_low p k held width z (run n p) (run n (With p k)) (run_low p k held width z n) i f d a a' id place w l

-- a function at a place of the package, in each of the two
sig_same : (p : Program) (k : PackageRecord) (held : ℕ → Type 0) (width : RunWidths) (o u : Option FuncRecord) → BothFuncs (λ f g. FuncLow p k f g held width) o u → sig_of_some o ≡ sig_of_some u
sig_same p k held width None None h = refl
sig_same p k held width None (Some g) h = elim h [ ]
sig_same p k held width (Some f) None h = elim h [ ]
sig_same p k held width (Some f) (Some g) h = h.refines.sig

-- unless it was wild, the program does the same
pub program_low : (p : Program) (k : PackageRecord) (held : ℕ → ℕ → Type 0) (width : ℕ → RunWidths) → ProgramLow p k held width → (n i : ℕ) (sig : SigRecord) (args : List ℕ) (w : World) (stack : ℕ) →
    ((f : FuncRecord) → slice_get p.pkg.funcs i ≡ Some f → sig ≡ f.sig) →
    Keeps Same (fitted_run p sig.results (begun (run n p) p i args stack w)) (fitted_run p sig.results (begun (run n (With p k)) (With p k) i args stack w))
program_low p k held width z n i sig args w stack named =
    keeps_bind (FitSame p sig.results) Same (begun (run n p) p i args stack w) (begun (run n (With p k)) (With p k) i args stack w)
    (λ results w. gives (fitted p.target (p.places sig.results) results) w) (λ results w. gives (fitted p.target (p.places sig.results) results) w)
    (begun_low p k held width z (run n p) (run n (With p k)) (run_low p k held width z n) i sig args args stack w named refl)
    (λ xs ys w d. inr (d, refl))

no_wild : (o : Outcome) → IsWildOutcome o → IsTame o → ⊥
no_wild (returned xs) h t = elim h [ ]
no_wild (trapped n) h t = elim h [ ]
no_wild (wild a) h t = t
no_wild going h t = elim h [ ]

-- a run that is kept and not wild ends alike
ended_same : (r q : Run (List ℕ)) → Keeps Same r q → IsTame (ended r).0 → ended q ≡ ended r
ended_same (gives xs w) q (inl h) t = elim h [ ]
ended_same (gives xs w) (gives ys v) (inr (e, d)) t = (let x : w.window ≡ v.window = ap (λ (z : World). z.window) d in rw (e, x) refl)
ended_same (gives xs w) (stops o c) (inr h) t = elim h [ ]
ended_same (stops o d) q (inl h) t = absurd (no_wild o h t)
ended_same (stops o d) (gives ys v) (inr h) t = elim h [ ]
ended_same (stops o d) (stops u c) (inr (e, x)) t = rw (e, x) refl

sig_at : (o : Option FuncRecord) (f : FuncRecord) → o ≡ Some f → sig_of_some o ≡ f.sig
sig_at o f e = ap sig_of_some e

pub means_the_same : (p : Program) (k : PackageRecord) (held : ℕ → ℕ → Type 0) (width : ℕ → RunWidths) → ProgramLow p k held width → MeansTheSame p (With p k)
means_the_same p k held width z n i args window stack t =
    ap (λ (s : SigRecord). ended (fitted_run p s.results (begun (run n (With p k)) (With p k) i (fitted p.target (p.places s.args) args) stack w))) (sym same)
    ∙ ended_same (fitted_run p sig.results (begun (run n p) p i xs stack w)) (fitted_run p sig.results (begun (run n (With p k)) (With p k) i xs stack w))
    (program_low p k held width z n i sig xs w stack (λ f d. sig_at (slice_get p.pkg.funcs i) f d)) t
  where
    sig : SigRecord
    sig = sig_of_some (slice_get p.pkg.funcs i)

    xs : List ℕ
    xs = fitted p.target (p.places sig.args) args

    w : World
    w = record { window = window; left = n }

    same : sig ≡ sig_of_some (slice_get k.funcs i)
    same = sig_same p k (held i) (width i) (slice_get p.pkg.funcs i) (slice_get k.funcs i) (z.funcs i)

-- Calls that wait in a run, and how the run goes on with what they are given.
use Rattle.std.proofs.Common.{◌≡◌, ℕ, zero, suc, refl, ap, sym, ◌∙◌, List, [], ◌∷◌, map, Option, Some, None, Bool, true, false, ◌==◌}
use Rattle.std.specs.Prelude.{slice_get, position, is_some, if◌then◌else◌}
use Rattle.bk_func.specs.Records.{ValueRecord, BlockRecord, FuncRecord}
use Rattle.bk_func.specs.Edits.{block_of}
use Rattle.bk_func.specs.Numbers.{Program, numbers}
use Rattle.bk_func.specs.Effects.{Effect, call, call_words, effect_of, chain_from}
use Rattle.bk_func.specs.Symbols.{sig_of, symbol_of, panic_divide, panic_shift}
use Rattle.bk_func.specs.Meaning.{Outcome, with_given, words_sent, World, Run, gives, stops, bind, trapped, going, Activation, Entries, Calls, done_by, done_at, halted, fault_at, in_state, in_func, in_block, at_count, entered, first_state, left_by, run, called, begun, begun_at, without_memory}
use Rattle.bk_func.proofs.Flat.{Laid, one, flat, bind_bind, performed_flat}
use Rattle.bk_mean.specs.declared.symbols.Callee.{Callee}
use Rattle.bk_mean.specs.declared.symbols.Callee.TheVariants.{Func, PanicDivide, PanicShift, Missing}
use Rattle.bk_mean.specs.Symbols.{callee_of, callee_found}

-- a call that waits in a block for what a function gives: the value that calls it, the values behind it, and a count that
-- bounds the blocks that are entered from there on
pub record Frame : Type 0 where
  pub place : ℕ
  pub func : FuncRecord
  pub block : BlockRecord
  pub value : ValueRecord
  pub rest : List ValueRecord
  pub act : Activation
  pub fuel : ℕ

-- calls that give these results
abbrev pub gave : List ℕ → World → Calls
gave results y = λ s args st x. gives results y

-- the rest of a function from inside a block
abbrev pub inside : Program → ℕ → FuncRecord → BlockRecord → ℕ → List ValueRecord → Activation → World → Run (List ℕ)
inside p i f b k vs a w = bind (flat (called (run k p) p) p f vs a w) (λ d y. left_by b.kind (run k p) p i f b d y)

abbrev pub after_call : Program → Frame → List ℕ → World → Run (List ℕ)
after_call p fr results w = bind (one (gave results w) p fr.func fr.value fr.act w) (λ d y. inside p fr.place fr.func fr.block fr.fuel fr.rest d y)

-- the rest of a run, where the call on top comes to results
abbrev pub resume : Program → List Frame → Run (List ℕ) → Run (List ℕ)
resume p [] r = r
resume p (fr ∷ frs) r = resume p frs (bind r (after_call p fr))

pub resume_stops : (p : Program) (frs : List Frame) (o : Outcome) (d : List ℕ) → resume p frs (stops o d) ≡ stops o d
resume_stops p [] o d = refl
resume_stops p (fr ∷ frs) o d = resume_stops p frs o d

-- the numbers that a value calls a function on
abbrev pub called_on : Effect → Program → FuncRecord → ValueRecord → Activation → List ℕ
called_on call_words p f v a = words_sent p (sig_of p.pkg (symbol_of v.aux)) (map (numbers p f a.env) (without_memory v.args)) a.out
called_on _ p f v a = map (numbers p f a.env) (without_memory v.args)

pub one_acts : (calls : Calls) (p : Program) (f : FuncRecord) (v : ValueRecord) (a : Activation) (w : World) (x : Effect) → effect_of v.op.family v.ty ≡ Some x →
    one calls p f v a w ≡ bind (done_by (Some x) calls p (numbers p f a.env) v a w) (λ c z. gives (in_state v.id c z) z)
one_acts calls p f v a w x e =
    ap (λ (o : Option Effect). if is_some o then done_at calls p f v a w else halted (fault_at p.target (numbers p f a.env) w.window v) a w) e
    ∙ ap (λ (o : Option Effect). bind (done_by o calls p (numbers p f a.env) v a w) (λ c z. gives (in_state v.id c z) z)) e

-- a value that calls a function gives what follows from what the call gives
pub one_calls : (calls : Calls) (p : Program) (f : FuncRecord) (v : ValueRecord) (a : Activation) (w : World) → effect_of v.op.family v.ty ≡ Some call →
    one calls p f v a w ≡ bind (calls (symbol_of v.aux) (called_on call p f v a) a.stack w) (λ rs y. one (gave rs y) p f v a y)
one_calls calls p f v a w e = one_acts calls p f v a w call e ∙ go (calls (symbol_of v.aux) (called_on call p f v a) a.stack w)
  where
    go : (r : Run (List ℕ)) →
        bind (bind r (λ rs y. gives (with_given a v.id rs) y)) (λ c z. gives (in_state v.id c z) z) ≡ bind r (λ rs y. one (gave rs y) p f v a y)
    go (gives rs y) = sym (one_acts (gave rs y) p f v a y call e)
    go (stops o d) = refl

pub one_calls_words : (calls : Calls) (p : Program) (f : FuncRecord) (v : ValueRecord) (a : Activation) (w : World) → effect_of v.op.family v.ty ≡ Some call_words →
    one calls p f v a w ≡ bind (calls (symbol_of v.aux) (called_on call_words p f v a) a.stack w) (λ rs y. one (gave rs y) p f v a y)
one_calls_words calls p f v a w e = one_acts calls p f v a w call_words e ∙ go (calls (symbol_of v.aux) (called_on call_words p f v a) a.stack w)
  where
    go : (r : Run (List ℕ)) →
        bind (bind r (λ rs y. gives (record (with_given a v.id rs) { out = λ k. 0 }) y)) (λ c z. gives (in_state v.id c z) z)
        ≡ bind r (λ rs y. one (gave rs y) p f v a y)
    go (gives rs y) = sym (one_acts (gave rs y) p f v a y call_words e)
    go (stops o d) = refl

-- a call that waits
pub wait_run : (p : Program) (fr : Frame) (vs : List ValueRecord) (a : Activation) (w world : World) (args : List ℕ) →
    flat (called (run fr.fuel p) p) p fr.func vs a w ≡ bind (one (called (run fr.fuel p) p) p fr.func fr.value fr.act world) (λ d y. flat (called (run fr.fuel p) p) p fr.func fr.rest d y) →
    one (called (run fr.fuel p) p) p fr.func fr.value fr.act world ≡ bind (called (run fr.fuel p) p (symbol_of fr.value.aux) args fr.act.stack world) (λ rs y. one (gave rs y) p fr.func fr.value fr.act y) →
    (frs : List Frame) →
    resume p frs (inside p fr.place fr.func fr.block fr.fuel vs a w) ≡ resume p (fr ∷ frs) (called (run fr.fuel p) p (symbol_of fr.value.aux) args fr.act.stack world)
wait_run p fr vs a w world args e q frs = ap (resume p frs) (
    ap (λ (r : Run Activation). bind r out) e
    ∙ bind_bind (one (called (run fr.fuel p) p) p fr.func fr.value fr.act world) (λ d y. flat (called (run fr.fuel p) p) p fr.func fr.rest d y) out
    ∙ ap (λ (r : Run Activation). bind r (λ d y. inside p fr.place fr.func fr.block fr.fuel fr.rest d y)) q
    ∙ bind_bind (called (run fr.fuel p) p (symbol_of fr.value.aux) args fr.act.stack world) (λ rs y. one (gave rs y) p fr.func fr.value fr.act y) (λ d y. inside p fr.place fr.func fr.block fr.fuel fr.rest d y)
    )
  where
    out : Activation → World → Run (List ℕ)
    out d y = left_by fr.block.kind (run fr.fuel p) p fr.place fr.func fr.block d y

-- what a call gives goes to the one that waits for it
pub return_run : (p : Program) (fr : Frame) (frs : List Frame) (rs : List ℕ) (y : World) (d : Activation) → one (gave rs y) p fr.func fr.value fr.act y ≡ gives d y →
    resume p (fr ∷ frs) (gives rs y) ≡ resume p frs (inside p fr.place fr.func fr.block fr.fuel fr.rest d y)
return_run p fr frs rs y d e = ap (λ (r : Run Activation). resume p frs (bind r (λ d y. inside p fr.place fr.func fr.block fr.fuel fr.rest d y))) e

-- no more blocks may be entered
pub run_spent : (k : ℕ) (p : Program) (i : ℕ) (a : Activation) (id place : ℕ) (w : World) → w.left ≡ 0 → run k p i a id place w ≡ stops going w.window
unfolding run
run_spent zero p i a id place w e = refl
run_spent (suc k) p i a id place w e = ap (λ n. at_count n w (in_func (slice_get p.pkg.funcs i) (run k p) p i a id place)) e

-- a block is entered, and its values are done in an order in which they lie
pub run_enters : (k l : ℕ) (p : Program) (i : ℕ) (a : Activation) (id place : ℕ) (w : World) (f : FuncRecord) (b : BlockRecord) (ls : List ValueRecord) → w.left ≡ suc l → slice_get p.pkg.funcs i ≡ Some f → block_of f id ≡ Some b →
    Laid f b (first_state b a.memory) (chain_from f b (first_state b a.memory)) ls →
    run (suc k) p i a id place w ≡ inside p i f b k ls (entered p f b place a (record w { left = l })) (record w { left = l })
unfolding run
run_enters k l p i a id place w f b ls e g h laid =
    ap (λ n. at_count n w (in_func (slice_get p.pkg.funcs i) (run k p) p i a id place)) e
    ∙ ap (λ o. in_func o (run k p) p i a id place (record w { left = l })) g
    ∙ ap (λ o. in_block o (run k p) p i f a place (record w { left = l })) h
    ∙ ap (λ (r : Run Activation). bind r (λ d y. left_by b.kind (run k p) p i f b d y))
    (performed_flat (called (run k p) p) p f b (first_state b a.memory) (chain_from f b (first_state b a.memory)) ls laid (entered p f b place a (record w { left = l })) (record w { left = l }) refl)

-- what is called
abbrev pub by_callee : Callee → Entries → Program → List ℕ → ℕ → World → Run (List ℕ)
by_callee (Func i) enter p args stack w = begun enter p i args stack w
by_callee PanicDivide enter p args stack w = stops (trapped 3) w.window
by_callee PanicShift enter p args stack w = stops (trapped 4) w.window
by_callee Missing enter p args stack w = stops (trapped 6) w.window

pub called_by : (enter : Entries) (p : Program) (s : ℕ) (args : List ℕ) (stack : ℕ) (w : World) → called enter p s args stack w ≡ by_callee (callee_of p.pkg s) enter p args stack w
called_by enter p s args stack w = go (s == panic_divide) (s == panic_shift) (position (λ g. g.name == s) p.pkg.funcs)
  where
    go : (t u : Bool) (o : Option ℕ) →
        (if t then stops (trapped 3) w.window else (if u then stops (trapped 4) w.window else begun_at o (begun enter p) args stack w))
        ≡ by_callee (if t then PanicDivide else (if u then PanicShift else callee_found o)) enter p args stack w
    go true u o = refl
    go false true o = refl
    go false false None = refl
    go false false (Some i) = refl

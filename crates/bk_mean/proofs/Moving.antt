-- A machine that is inside a block does the rest of it, and what that means is what it comes to.
use Rattle.std.proofs.Common.{◌≡◌, ℕ, zero, suc, ◌+◌, ◌-◌, ◌<◌, ◌%◌, ◌==◌, refl, ap, sym, ◌∙◌, subst, arith, inl, inr, List, [], ◌∷◌, ◌++◌, length, take, drop, map, length-append, Option, Some, None, Bool, true, false, not, cond}
use Rattle.std.specs.Prelude.{slice_get, slice_index, position, count_by, is_some, IsSome, if◌then◌else◌}
use Rattle.std.specs.List.{AllZip, All, position_or_len}
use Rattle.std.proofs.lemmas.Bool.{eqb-true, lt-ltb}
use Rattle.std.proofs.lemmas.Option.{slice_get_within, get_or_from_slice_get}
use Rattle.std.proofs.lemmas.List.Sums.{sum_by-cons}
use Rattle.bk_ops.specs.Families.{is_word_call}
use Rattle.bk_ops.specs.declared.family.Family.{Family}
use Rattle.bk_ops.specs.declared.family.Family.TheVariants as op
use Rattle.bk_ops.specs.declared.family.ArmOp.TheVariants as arm
use Rattle.bk_ops.specs.declared.family.RvOp.TheVariants as rv
use Rattle.bk_ops.specs.declared.types.Ty.{Ty}
use Rattle.bk_func.specs.declared.parts.Kind.{Kind}
use Rattle.bk_func.specs.declared.parts.Kind.TheVariants.{Plain, If, First, Ret, Exit}
use Rattle.bk_func.specs.Records.{ValueRecord, BlockRecord, FuncRecord}
use Rattle.bk_func.specs.Edits.{block_of}
use Rattle.bk_func.specs.Numbers.{Program, numbers, room, values_of, is_mem}
use Rattle.bk_func.specs.Effects.{Effect, call, call_words, pass, effect_of, has_effect}
use Rattle.bk_func.specs.Symbols.{sig_of, symbol_of}
use Rattle.bk_func.specs.Meaning.{Outcome, World, Run, gives, stops, bind, trapped, wild, Activation, first_state, entered, edge_place, run, called, words_sent, without_memory, left_by, onto, is_taken}
use Rattle.bk_func.specs.declared.form.FormKind.TheVariants.{Missing, Control, Use}
use Rattle.bk_func.specs.Form.{IsFormed}
use Rattle.bk_func.specs.Form.Text.{HasBlock}
use Rattle.bk_func.specs.Form.Walks.{IsDefinedAt}
use Rattle.bk_func.specs.Form.Parts.{IsBlockNumber, FitsKind, KeepsControl}
use Rattle.bk_func.proofs.Flat.{flat}
use Rattle.bk_mean.specs.Numbering.{place_in}
use Rattle.bk_mean.specs.Ready.{IsReadyValue, IsReadyBlock, IsReadyEdge, count_values, control_place}
use Rattle.bk_mean.specs.Turned.{Stage, Ground}
use Rattle.bk_mean.specs.Left.{put_all, phi_numbers, results_of, Desk, Goes, Leaves, Crosses, Enters, Begins, Ran, GoesOn, going, chosen}
use Rattle.bk_mean.specs.Running.{Held, Store, stored, Moved, MovesOn}
use Rattle.bk_mean.specs.declared.machine.Activation.{Activation as Active}
use Rattle.bk_mean.specs.declared.ready.Edge.{Edge}
use Rattle.bk_mean.specs.declared.ready.Ready.{Ready}
use Rattle.bk_mean.specs.declared.ready.ReadyValue.{ReadyValue}
use Rattle.bk_mean.specs.declared.ready.ReadyBlock.{ReadyBlock}
use Rattle.bk_mean.specs.declared.step.CallWords.{CallWords}
use Rattle.bk_mean.specs.declared.step.After.{After}
use Rattle.bk_mean.specs.declared.step.After.TheVariants as after
use Rattle.bk_mean.specs.declared.turn.Next.{Next}
use Rattle.bk_mean.specs.declared.turn.Next.TheVariants as next
use Rattle.bk_places.proofs.Elements.{to_contains}
use Rattle.bk_mean.proofs.Named.{got_in, got_index, found_block}
use Rattle.bk_mean.proofs.Formed.{sound}
use Rattle.bk_mean.proofs.Chains.{effect_no_phi}
use Rattle.bk_mean.proofs.Arranged.{due_level, due_class, values_at}
use Rattle.bk_mean.proofs.Walked.{arrives_reached}
use Rattle.bk_mean.proofs.Tables.{Turn, arguments_known}
use Rattle.bk_mean.proofs.Tabled.{table, table_read, ready_at, ready_there}
use Rattle.bk_mean.proofs.Doing.{Order, IsAt, Comes, stage_same}
use Rattle.bk_mean.proofs.Rounds.{Waits, Round, round}
use Rattle.bk_mean.proofs.Leaving.{end_known, crosses_to, crossed, results_taken, same_map, in_take, without_places}
use Rattle.bk_mean.proofs.Resuming.{Frame, inside, resume, resume_stops, called_on, one_calls, one_calls_words, wait_run}
use Rattle.bk_mean.proofs.Stacking.{Learnt, Sits, Suspended, Within, Heads, Calling, ground}

-- lists

pub drop_all : {A : Type 0} (xs ys : List A) → drop (length xs) (xs ++ ys) ≡ ys
drop_all [] ys = refl
drop_all (x ∷ xs) ys = drop_all xs ys

pub take_all : {A : Type 0} (xs ys : List A) → take (length xs) (xs ++ ys) ≡ xs
take_all [] ys = refl
take_all (x ∷ xs) ys = ap (λ zs. x ∷ zs) (take_all xs ys)

pub get_there : {A : Type 0} (xs : List A) (j : ℕ) → j < length xs → (x : A) × (slice_get xs j ≡ Some x)
get_there [] j l = absurd (omega arith)
get_there (x ∷ xs) zero l = (x, refl)
get_there (x ∷ xs) (suc j) l = get_there xs j (omega arith)

pub zip_length : {A B : Type 0} (R : A → B → Type 0) (xs : List A) (ys : List B) → AllZip R xs ys → length ys ≡ length xs
zip_length R [] [] z = refl
zip_length R [] (y ∷ ys) z = absurd z
zip_length R (x ∷ xs) [] z = absurd z
zip_length R (x ∷ xs) (y ∷ ys) z = ap suc (zip_length R xs ys z.1)

abbrev bears : {A : Type 0} → (A → Bool) → A → ℕ
bears test c = cond (test c) 1 0

-- the first that passes a test
first_passes : {A : Type 0} (test : A → Bool) (xs : List A) → 0 < count_by test xs → (x : A) × (slice_get xs (position_or_len test xs) ≡ Some x) × (test x ≡ true)
first_passes test [] l = absurd (omega arith)
first_passes {A} test (x ∷ xs) l = go (test x) refl (sum_by-cons (bears test) x xs) (λ k. first_passes test xs k)
  where
    go : (t : Bool) → test x ≡ t → count_by test (x ∷ xs) ≡ bears test x + count_by test xs → (0 < count_by test xs → (y : A) × (slice_get xs (position_or_len test xs) ≡ Some y) × (test y ≡ true)) →
        (y : A) × (slice_get (x ∷ xs) (cond (not t) (1 + position_or_len test xs) 0) ≡ Some y) × (test y ≡ true)
    go true e s rest = (x, refl, e)
    go false e s rest =
        let d : bears test x ≡ 0 = rw e refl in
        let r = rest (omega (arith, s, d, l)) in
        let k : 1 + position_or_len test xs ≡ suc (position_or_len test xs) = omega arith in
        (r.0, ap (slice_get (x ∷ xs)) k ∙ r.1, r.2)

-- a block of a number that a block bears is found
found_at : (n : ℕ) (bs : List BlockRecord) → 0 < count_by (λ c. c.id == n) bs → (j : ℕ) × (c : BlockRecord) × (position (λ c. c.id == n) bs ≡ Some j) × (slice_get bs j ≡ Some c) × (c.id ≡ n)
found_at n bs l =
    let r = first_passes (λ (c : BlockRecord). c.id == n) bs l in
    let k = slice_get_within bs (position_or_len (λ (c : BlockRecord). c.id == n) bs) r.0 r.1 in (
      position_or_len (λ (c : BlockRecord). c.id == n) bs,
      r.0,
      ap (λ t. cond t (Some (position_or_len (λ (c : BlockRecord). c.id == n) bs)) None) (lt-ltb (position_or_len (λ (c : BlockRecord). c.id == n) bs) (length bs) k),
      r.1,
      eqb-true r.0.id n r.2,
    )

number_there : (f : FuncRecord) (m : ℕ) → IsBlockNumber f m → 0 < count_by (λ b. b.id == m) f.blocks
unfolding IsBlockNumber
number_there f m k = omega (arith, k)

all_at : (f : FuncRecord) (k m : ℕ) (xs : List ℕ) → slice_get xs k ≡ Some m → All (IsBlockNumber f) xs → IsBlockNumber f m
all_at f k m xs got all = (let P : ℕ → Type 0 = λ z. IsBlockNumber f z in subst P (get_or_from_slice_get xs k m 0 got) (all k 0 (slice_get_within xs k m got)))

no_control : (s : Option ℕ) → IsSome s → s ≡ None → ⊥
no_control None i e = cc
no_control (Some n) i e = cc

-- the families of calls

abbrev pub is_call : Option Effect → Bool
is_call (Some call) = true
is_call _ = false

abbrev pub is_call_words : Option Effect → Bool
is_call_words (Some call_words) = true
is_call_words _ = false

pub not_on_words : (g : Family) (ty : Ty) → is_call (effect_of g ty) ≡ true → is_word_call g ≡ false
not_on_words op.Call ty e = absurd cc
not_on_words op.CallRegs ty e = absurd cc
not_on_words _ ty e = refl

pub on_words : (g : Family) (ty : Ty) → is_call_words (effect_of g ty) ≡ true → is_word_call g ≡ true
on_words op.Call ty e = refl
on_words op.CallRegs ty e = refl
on_words op.SelectN ty e = absurd (selects (is_mem ty) e)
  where
    selects : (b : Bool) → is_call_words (if b then Some pass else None) ≡ true → ⊥
    selects true e = cc
    selects false e = cc
on_words (op.Arm arm.Store) ty e = absurd cc
on_words (op.Arm _) ty e = absurd cc
on_words (op.Rv rv.Store) ty e = absurd cc
on_words (op.Rv _) ty e = absurd cc
on_words _ ty e = absurd cc

-- the ends of runs reach through the calls that wait
ended_run : (p : Program) (frs : List Frame) (f : FuncRecord) (i : ℕ) (b : BlockRecord) (k : ℕ) (vs : List ValueRecord) (a : Activation) (w : World) (o : Outcome) (d : List ℕ) → flat (called (run k p) p) p f vs a w ≡ stops o d →
    resume p frs (inside p i f b k vs a w) ≡ stops o d
ended_run p frs f i b k vs a w o d e =
    ap (λ (r : Run Activation). resume p frs (bind r (λ d y. left_by b.kind (run k p) p i f b d y))) e ∙ resume_stops p frs o d

module _ (p : Program) (readies : List (Option Ready)) (n : ℕ) (h : Held) (r : Run (List ℕ)) (q : Within p readies n h r) (d : Active) (e : Store) (x : Next) (moved : Moved p.target p.pkg readies q.top d (stored h) e x) where
  abbrev its : Sits p readies q.k q.i q.f q.b q.m q.pre q.rest q.top q.front q.args q.top.words h.window q.act q.world
  its = q.sits

  abbrev R : Ready
  R = its.ready

  learnt : Learnt p readies q.i q.f its.ready
  learnt = its.learnt

  formed : IsFormed learnt.set q.f
  formed = learnt.formed

  has_b : HasBlock q.f q.b
  has_b = to_contains q.b q.f.blocks (got_in q.f.blocks q.top.block q.b its.block)

  block_known : IsReadyBlock q.f (count_values (take q.top.block q.f.blocks)) q.b its.course
  block_known = learnt.blocks.each q.top.block q.b its.course (slice_get_within q.f.blocks q.top.block q.b its.block) its.block its.its

  values_length : length its.ready.values.items ≡ room q.f
  values_length = zip_length (IsReadyValue p.pkg q.f) (values_of q.f) its.ready.values.items learnt.values

  front_length : length q.front ≡ length its.ready.values.items + 1
  front_length = let l = its.at.long in omega (arith, l, values_length)

  order : Order learnt.set q.f q.b q.m (due_level q.f q.b (first_state q.b q.m)) due_class (values_at q.b.values its.course.order.items)
  order = learnt.order q.top.block q.b its.course its.block its.its q.m its.arrives

  moves : MovesOn p.target q.f its.ready q.top d (stored h) e x
  moves =
      moved q.f its.ready (ap (slice_get p.pkg.funcs) its.func ∙ learnt.func) (ap (slice_get readies) its.func ∙ learnt.ready)
      (let a = q.base in let b = ap length q.has_numbers in let c = length-append q.numbers (q.front ++ q.args) in omega (arith, a, b, c))

  own_numbers : drop q.top.base h.numbers ≡ q.front ++ q.args
  own_numbers = ap (λ k. drop k h.numbers) q.base ∙ ap (drop (length q.numbers)) q.has_numbers ∙ drop_all q.numbers (q.front ++ q.args)

  own_front : take (length its.ready.values.items + 1) (drop q.top.base h.numbers) ≡ q.front
  own_front = ap (λ k. take k (drop q.top.base h.numbers)) (sym front_length) ∙ ap (take (length q.front)) own_numbers ∙ take_all q.front q.args

  own_args : drop (length its.ready.values.items + 1) (drop q.top.base h.numbers) ≡ q.args
  own_args = ap (λ k. drop k (drop q.top.base h.numbers)) (sym front_length) ∙ ap (drop (length q.front)) own_numbers ∙ drop_all q.front q.args

  goes : GoesOn p.target q.f its.ready q.b its.course (record { call = q.top; numbers = drop q.top.base h.numbers; hand = h.hand }) (record { call = d; numbers = moves.last; hand = e.hand }) h.window e.window x
  goes =
      moves.on q.b its.course its.block its.its
      (let a = ap length own_numbers in let b = length-append q.front q.args in omega (arith, a, b, front_length))

  ran : Ran p.target q.f its.ready q.b its.course q.args (record { call = q.top; numbers = q.front; hand = h.hand }) (record { call = d; numbers = goes.last; hand = e.hand }) h.window e.window x
  ran =
      let P : List ℕ → Type 0 = λ z. Ran p.target q.f its.ready q.b its.course z (record { call = q.top; numbers = q.front; hand = h.hand }) (record { call = d; numbers = goes.last; hand = e.hand }) h.window e.window x in
      let S : List ℕ → Type 0 = λ z. Ran p.target q.f its.ready q.b its.course (drop (length its.ready.values.items + 1) (drop q.top.base h.numbers)) (record { call = q.top; numbers = z; hand = h.hand }) (record { call = d; numbers = goes.last; hand = e.hand }) h.window e.window x in
      subst P own_args (subst S own_front goes.ran)

  now_numbers : e.numbers ≡ q.numbers ++ (goes.last ++ q.args)
  now_numbers =
      moves.numbers
      ∙ ap (λ z. z ++ moves.last) (ap (λ k. take k h.numbers) q.base ∙ ap (take (length q.numbers)) q.has_numbers ∙ take_all q.numbers (q.front ++ q.args))
      ∙ ap (λ z. q.numbers ++ z) (goes.numbers ∙ ap (λ z. goes.last ++ z) own_args)

  abbrev g : Ground
  g = ground p q.args

  abbrev left : List ValueRecord
  left = values_at q.b.values (drop q.top.next its.course.order.items)

  turns : Round p learnt.set q.f q.b q.m (due_level q.f q.b (first_state q.b q.m)) due_class (values_at q.b.values its.course.order.items) order g q.top.block its.course.first its.block block_known.first its.ready.values.items learnt.values (called (run q.k p) p)
      left (drop ran.at its.course.order.items) ran.by ran.stage ran.after q.act q.world
  turns =
      round p learnt.set q.f q.b q.m (due_level q.f q.b (first_state q.b q.m)) due_class (values_at q.b.values its.course.order.items) order g q.top.block its.course.first its.block block_known.first its.ready.values.items learnt.values (called (run q.k p) p)
      (drop q.top.next its.course.order.items) (drop ran.at its.course.order.items) (record { numbers = q.front; window = h.window; words = q.top.words }) ran.stage ran.by ran.after ran.turned q.pre (its.parts ∙ ap (λ vs. q.pre ++ vs) q.next) q.act q.world its.at

  run_left : r ≡ resume p q.frames (inside p q.i q.f q.b q.k left q.act q.world)
  run_left = q.run ∙ ap (λ vs. resume p q.frames (inside p q.i q.f q.b q.k vs q.act q.world)) q.next

  -- what the call on top comes to
  abbrev now : Held
  now = record { window = e.window; hand = e.hand; numbers = e.numbers; calls = q.calls ++ d ∷ [] }

  -- the call on top returns
  pub record Returned : Type 0 where
    pub world : World
    pub run : r ≡ resume p q.frames (gives e.hand world)
    pub window : world.window ≡ e.window
    pub left : world.left ≡ n
    pub func : d.func ≡ q.top.func
    pub base : d.base ≡ q.top.base
    pub front : List ℕ
    pub numbers : e.numbers ≡ q.numbers ++ (front ++ q.args)
    pub long : length front ≡ length its.ready.values.items + 1

  abbrev pub Yields : Next → Type 0
  Yields next.Enter = Heads p readies n now r
  Yields (next.Call what on_words) = Calling p readies n now r what on_words
  Yields (next.Trap t) = r ≡ stops (trapped t) e.window
  Yields (next.Wild t) = r ≡ stops (wild t) e.window
  Yields next.Return = Returned

  yields_as : (z : Next) → x ≡ z → Yields z → Yields x
  yields_as z k y = (let P : Next → Type 0 = λ t. Yields t in subst P (sym k) y)

  after_trap : (o : Outcome) → flat (called (run q.k p) p) p q.f left q.act q.world ≡ stops o ran.stage.window → r ≡ stops o e.window
  after_trap o k = run_left ∙ ended_run p q.frames q.f q.i q.b q.k left q.act q.world o ran.stage.window k ∙ ap (λ d. stops o d) (sym ran.window)

  -- the desks before and after the way out
  abbrev before : Desk
  before = record { call = going q.top ran.at ran.by ran.stage.words; numbers = ran.stage.numbers; hand = h.hand }

  abbrev behind : Desk
  behind = record { call = d; numbers = goes.last; hand = e.hand }

  abbrev done : List ValueRecord
  done = values_at q.b.values its.course.order.items

  stage_now : (front : List ℕ) (words : CallWords) → front ≡ ran.stage.numbers → words ≡ ran.stage.words → (record { numbers = front; window = e.window; words = words }) ≡ ran.stage
  stage_now front words k l = stage_same ran.stage (record { numbers = front; window = e.window; words = words }) k ran.window l

  abbrev frame : Waits p q.f q.b q.m g done left (drop ran.at its.course.order.items) ran.by ran.stage (called (run q.k p) p) q.act q.world → Frame
  frame w = record { place = q.i; func = q.f; block = q.b; value = w.value; rest = values_at q.b.values (drop ran.at its.course.order.items); act = w.act; fuel = q.k }

  -- a function is called
  on_call : Begins (slice_get its.ready.values.items ran.by) before behind x →
      Waits p q.f q.b q.m g done left (drop ran.at its.course.order.items) ran.by ran.stage (called (run q.k p) p) q.act q.world → Yields x
  on_call begins w = by_ready (ready_there learnt.set q.f (formed.kinds Missing) p.pkg its.ready.values.items learnt.values q.b w.value w.stands)
    where
      acts : has_effect w.value ≡ true
      acts = elim w.calling as (λ _. has_effect w.value ≡ true) [ inl k ↦ ap is_some k | inr k ↦ ap is_some k ]

      turn : Turn learnt.set q.f q.b (due_level q.f q.b (first_state q.b q.m)) due_class w.pre w.value (values_at q.b.values (drop ran.at its.course.order.items))
      turn = record { sound = sound learnt.set q.f formed; reached = arrives_reached q.f q.b q.m its.arrives; list = done; filled = order.filled; parts = w.parts; stands = w.stands }

      hand_is : (known : List ℕ) → known ≡ map (place_in q.f) w.value.args → map (slice_index ran.stage.numbers) (without_memory known) ≡ map (numbers p q.f w.act.env) (without_memory w.value.args)
      hand_is known k =
          ap (λ xs. map (slice_index ran.stage.numbers) (without_memory xs)) k
          ∙ ap (map (slice_index ran.stage.numbers)) (without_places q.f w.value.args)
          ∙ table_read q.f ran.stage.numbers (without_memory w.value.args)
          ∙ same_map (table q.f ran.stage.numbers) (numbers p q.f w.act.env) (without_memory w.value.args)
          (λ y j. w.at.knows y (arguments_known learnt.set q.f q.b (due_level q.f q.b (first_state q.b q.m)) due_class w.pre w.value (values_at q.b.values (drop ran.at its.course.order.items)) turn (effect_no_phi w.value acts) y
          (in_take (length w.value.args - 1) w.value.args y j)))

      calls_it : (rv : ReadyValue) → IsReadyValue p.pkg q.f w.value rv → d ≡ before.call → goes.last ≡ ran.stage.numbers → e.hand ≡ map (slice_index ran.stage.numbers) (without_memory rv.args.items) → Calling p readies n now r rv.callee rv.on_words
      calls_it rv known k l m = elim w.calling as (λ _. Calling p readies n now r rv.callee rv.on_words) [
        | inl c ↦ record {
          frame = frame w;
          frames = q.frames;
          calls = q.calls;
          numbers = q.numbers;
          top = d;
          front = goes.last;
          args = q.args;
          world = w.world;
          has_calls = refl;
          has_numbers = now_numbers;
          base = ap (λ (z : Active). z.base) k ∙ q.base;
          stacked = q.stacked;
          waits = suspended;
          callee = known.callee;
          given = called_on call p q.f w.value w.act;
          run = run_left ∙ wait_run p (frame w) left q.act q.world w.world (called_on call p q.f w.value w.act) w.run (one_calls (called (run q.k p) p) p q.f w.value w.act w.world c) q.frames;
          how = inl (c, known.on_words ∙ not_on_words w.value.op.family w.value.ty (ap is_call c), m ∙ hand_is rv.args.items known.args);
          fuel = (let a = its.fuel in let b = q.left in omega (arith, a, b));
          left = w.left ∙ q.left;
        }
        | inr c ↦ record {
          frame = frame w;
          frames = q.frames;
          calls = q.calls;
          numbers = q.numbers;
          top = d;
          front = goes.last;
          args = q.args;
          world = w.world;
          has_calls = refl;
          has_numbers = now_numbers;
          base = ap (λ (z : Active). z.base) k ∙ q.base;
          stacked = q.stacked;
          waits = suspended;
          callee = known.callee;
          given = called_on call_words p q.f w.value w.act;
          run = run_left ∙ wait_run p (frame w) left q.act q.world w.world (called_on call_words p q.f w.value w.act) w.run (one_calls_words (called (run q.k p) p) p q.f w.value w.act w.world c) q.frames;
          how = inr (c, known.on_words ∙ on_words w.value.op.family w.value.ty (ap is_call_words c), ap (λ xs. words_sent p (sig_of p.pkg (symbol_of w.value.aux)) xs w.act.out) (sym (m ∙ hand_is rv.args.items known.args)));
          fuel = (let a = its.fuel in let b = q.left in omega (arith, a, b));
          left = w.left ∙ q.left;
        }
      ]
        where
          suspended : Suspended p readies (frame w) d goes.last q.args d.words e.window w.world
          suspended = record {
            m = q.m;
            pre = w.pre;
            sits = record {
              ready = its.ready;
              learnt = learnt;
              func = ap (λ (z : Active). z.func) k ∙ its.func;
              block = ap (λ (z : Active). slice_get q.f.blocks z.block) k ∙ its.block;
              course = its.course;
              its = ap (λ (z : Active). slice_get its.ready.blocks.items z.block) k ∙ its.its;
              arrives = its.arrives;
              parts = w.parts;
              at = (let P : Stage → Type 0 = λ z. IsAt p q.f q.b q.m g w.pre z w.act w.world in subst P (sym (stage_now goes.last d.words l (ap (λ (z : Active). z.words) k))) w.at);
              stack = ap (λ (z : Active). z.stack) k ∙ its.stack ∙ sym w.stack;
              fuel = (let a = its.fuel in let b = w.left in omega (arith, a, b));
            };
            left = ap (λ (z : Active). values_at q.b.values (drop z.next its.course.order.items)) (sym k);
            stands = w.stands;
            by = ap (λ (z : Active). z.called_by) k ∙ w.here;
          }

      by_ready : (rv : ReadyValue) × (slice_get its.ready.values.items (place_in q.f w.value.id) ≡ Some rv) → Yields x
      by_ready (rv, got) =
          let P : Option ReadyValue → Type 0 = λ z. Begins z before behind x in
          let k = subst P (ap (slice_get its.ready.values.items) w.here ∙ got) begins in
          let known = ready_at learnt.set q.f (formed.kinds Missing) p.pkg its.ready.values.items learnt.values q.b w.value w.stands rv got in
          yields_as (next.Call rv.callee rv.on_words) k.0 (calls_it rv known k.1 k.2 k.3)

  -- an edge is crossed
  cross : (c : Activation) (y : World) → IsAt p q.f q.b q.m g done ran.stage c y → c.stack ≡ q.act.stack → y.left ≡ q.world.left → (index sid : ℕ) → slice_get q.b.succs index ≡ Some sid → (edge : Edge) → IsReadyEdge q.f q.b index edge →
      Crosses its.ready edge.block edge.place before behind x → r ≡ resume p q.frames (onto (run q.k p) q.i q.f q.b index c y) → Yields x
  cross c y at st le index sid succ edge known crosses runs = by_block (found_at sid q.f.blocks (number_there q.f sid (all_at q.f index sid q.b.succs succ ((formed.kinds Missing q.b has_b).block.succs))))
    where
      entering : (j : ℕ) (b : BlockRecord) (course : ReadyBlock) → edge.block ≡ Some j → slice_get q.f.blocks j ≡ Some b → b.id ≡ sid → slice_get its.ready.blocks.items j ≡ Some course → Yields x
      entering j b course pos got id course_got = yields_as next.Enter crosses_in.0 heads
        where
          idx : slice_index q.b.succs index ≡ b.id
          idx = got_index q.b.succs index sid succ ∙ sym id

          has : HasBlock q.f b
          has = to_contains b q.f.blocks (got_in q.f.blocks j b got)

          block_is : block_of q.f (slice_index q.b.succs index) ≡ Some b
          block_is = ap (block_of q.f) idx ∙ found_block q.f (sound learnt.set q.f formed).named b has

          place_is : edge.place ≡ edge_place q.b index (Some b)
          place_is = known.place ∙ ap (edge_place q.b index) block_is

          ready : IsReadyBlock q.f (count_values (take j q.f.blocks)) b course
          ready = learnt.blocks.each j b course (slice_get_within q.f.blocks j b got) got course_got

          crosses_in : Enters its.ready j edge.place (Some course) before behind x
          crosses_in =
              let P : Option ℕ → Type 0 = λ z. Crosses its.ready z edge.place before behind x in
              let S : Option ReadyBlock → Type 0 = λ z. Enters its.ready j edge.place z before behind x in
              subst S course_got (subst P pos crosses)

          entered_at : IsAt p q.f b c.memory g [] (record { numbers = put_all course.first course.phis.items (phi_numbers course.first its.ready.values.items ran.stage.numbers edge.place course.phis.items) ran.stage.numbers; window = ran.stage.window; words = ran.stage.words }) (entered p q.f b edge.place c y) y
          entered_at =
              crossed p learnt.set q.f q.b q.m (due_level q.f q.b (first_state q.b q.m)) due_class done order g ran.stage c y at its.ready.values.items learnt.values index j b course (succ ∙ ap Some (sym id)) got ready.first ready.phis edge.place place_is

          stage_is : ◌≡◌ {A = Stage} (record { numbers = goes.last; window = e.window; words = d.words }) (record { numbers = put_all course.first course.phis.items (phi_numbers course.first its.ready.values.items ran.stage.numbers edge.place course.phis.items) ran.stage.numbers; window = ran.stage.window; words = ran.stage.words })
          stage_is =
              stage_same (record { numbers = put_all course.first course.phis.items (phi_numbers course.first its.ready.values.items ran.stage.numbers edge.place course.phis.items) ran.stage.numbers; window = ran.stage.window; words = ran.stage.words })
              (record { numbers = goes.last; window = e.window; words = d.words }) crosses_in.2 ran.window (ap (λ (z : Active). z.words) crosses_in.1)

          heads : Heads p readies n now r
          heads = record {
            frames = q.frames;
            calls = q.calls;
            numbers = q.numbers;
            top = d;
            front = goes.last;
            args = q.args;
            k = q.k;
            i = q.i;
            f = q.f;
            b = b;
            place = edge.place;
            rest = values_at b.values course.order.items;
            act = c;
            world = y;
            has_calls = refl;
            has_numbers = now_numbers;
            base = ap (λ (z : Active). z.base) crosses_in.1 ∙ q.base;
            stacked = q.stacked;
            sits = record {
              ready = its.ready;
              learnt = learnt;
              func = ap (λ (z : Active). z.func) crosses_in.1 ∙ its.func;
              block = ap (λ (z : Active). slice_get q.f.blocks z.block) crosses_in.1 ∙ got;
              course = course;
              its = ap (λ (z : Active). slice_get its.ready.blocks.items z.block) crosses_in.1 ∙ course_got;
              arrives = crosses_to p learnt.set q.f q.b q.m (due_level q.f q.b (first_state q.b q.m)) due_class done order g ran.stage c y at its.ready.values.items learnt.values index j b course (succ ∙ ap Some (sym id)) got ready.first ready.phis edge.place place_is;
              parts = refl;
              at = (let P : Stage → Type 0 = λ z. IsAt p q.f b c.memory g [] z (entered p q.f b edge.place c y) y in subst P (sym stage_is) entered_at);
              stack = ap (λ (z : Active). z.stack) crosses_in.1 ∙ its.stack ∙ sym st;
              fuel = (let a = its.fuel in omega (arith, a, le));
            };
            next = ap (λ (z : Active). values_at b.values (drop z.next course.order.items)) (sym crosses_in.1);
            run = runs ∙ ap (λ m. resume p q.frames (run q.k p q.i c m (edge_place q.b index (block_of q.f (slice_index q.b.succs index))) y)) idx
                ∙ ap (λ m. resume p q.frames (run q.k p q.i c b.id m y)) (sym known.place);
            left = le ∙ q.left;
          }

      by_block : (j : ℕ) × (b : BlockRecord) × (position (λ b. b.id == sid) q.f.blocks ≡ Some j) × (slice_get q.f.blocks j ≡ Some b) × (b.id ≡ sid) → Yields x
      by_block (j, b, pos, got, id) =
          let l = slice_get_within q.f.blocks j b got in
          let k = learnt.blocks.length in
          let course = get_there its.ready.blocks.items j (omega (arith, l, k)) in
          let found : edge.block ≡ Some j = known.block ∙ ap (λ m. position (λ (b : BlockRecord). b.id == m) q.f.blocks) (got_index q.b.succs index sid succ) ∙ pos in
          entering j b course.0 found got id course.1

  -- the end of the block
  on_end : (c : Activation) (y : World) → flat (called (run q.k p) p) p q.f left q.act q.world ≡ gives c y → IsAt p q.f q.b q.m g done ran.stage c y → c.stack ≡ q.act.stack → y.left ≡ q.world.left →
      Leaves q.b.kind q.f.sig its.ready its.course before behind x → Yields x
  on_end c y flat_gives at st le leaves = by_kind q.b.kind refl control_kept.kind leaves
    where
      control_kept : KeepsControl q.f q.b
      control_kept = (formed.kinds Control q.b has_b).block

      run_end : (k : Kind) → q.b.kind ≡ k → r ≡ resume p q.frames (left_by k (run q.k p) p q.i q.f q.b c y)
      run_end k e =
          run_left
          ∙ ap (λ (z : Run Activation). resume p q.frames (bind z (λ c y. left_by q.b.kind (run q.k p) p q.i q.f q.b c y))) flat_gives
          ∙ ap (λ z. resume p q.frames (left_by z (run q.k p) p q.i q.f q.b c y)) e

      known : (n : ℕ) → IsDefinedAt q.f q.b n → table q.f ran.stage.numbers n ≡ numbers p q.f c.env n
      known m defined = end_known p learnt.set q.f q.b q.m (due_level q.f q.b (first_state q.b q.m)) due_class done order g ran.stage c y at m defined

      zero_edge : (sid : ℕ) → slice_get q.b.succs 0 ≡ Some sid → r ≡ resume p q.frames (onto (run q.k p) q.i q.f q.b 0 c y) → Crosses its.ready its.course.edge.block its.course.edge.place before behind x → Yields x
      zero_edge sid s runs crosses = cross c y at st le 0 sid s its.course.edge block_known.edge crosses runs

      first_edge : length q.b.succs ≡ 1 → (k : Kind) → r ≡ resume p q.frames (onto (run q.k p) q.i q.f q.b 0 c y) → Crosses its.ready its.course.edge.block its.course.edge.place before behind x → Yields x
      first_edge l k runs crosses = let s = get_there q.b.succs 0 (omega (arith, l)) in cross c y at st le 0 s.0 s.1 its.course.edge block_known.edge crosses runs

      -- of two edges the second is taken where the control is even
      two_edges : (id : ℕ) → q.b.control ≡ Some id → length q.b.succs ≡ 2 → q.b.kind ≡ If → (t : Bool) → (slice_index ran.stage.numbers its.course.control % 2 == 0) ≡ t →
          Crosses its.ready (chosen t its.course).block (chosen t its.course).place before behind x → Yields x
      two_edges id ctrl l e t even crosses = go t (sym number_even ∙ even) crosses
        where
          control_number : slice_index ran.stage.numbers its.course.control ≡ numbers p q.f c.env id
          control_number = ap (slice_index ran.stage.numbers) (block_known.control ∙ ap (control_place q.f) ctrl) ∙ known id (((formed.kinds Use) q.b has_b).block id ctrl)

          number_even : (slice_index ran.stage.numbers its.course.control % 2 == 0) ≡ (numbers p q.f c.env id % 2 == 0)
          number_even = ap (λ n. n % 2 == 0) control_number

          runs_by : (t : Bool) → (numbers p q.f c.env id % 2 == 0) ≡ t →
              r ≡ resume p q.frames (if not t then onto (run q.k p) q.i q.f q.b 0 c y else onto (run q.k p) q.i q.f q.b 1 c y)
          runs_by t k =
              run_end If e
              ∙ ap (λ o. resume p q.frames (if is_taken p q.f c o then onto (run q.k p) q.i q.f q.b 0 c y else onto (run q.k p) q.i q.f q.b 1 c y)) ctrl
              ∙ ap (λ b. resume p q.frames (if not b then onto (run q.k p) q.i q.f q.b 0 c y else onto (run q.k p) q.i q.f q.b 1 c y)) k

          go : (t : Bool) → (numbers p q.f c.env id % 2 == 0) ≡ t → Crosses its.ready (chosen t its.course).block (chosen t its.course).place before behind x → Yields x
          go true k z = let s = get_there q.b.succs 1 (omega (arith, l)) in cross c y at st le 1 s.0 s.1 its.course.other block_known.other z (runs_by true k)
          go false k z = let s = get_there q.b.succs 0 (omega (arith, l)) in cross c y at st le 0 s.0 s.1 its.course.edge block_known.edge z (runs_by false k)

      returned : (id : ℕ) → q.b.control ≡ Some id → q.b.kind ≡ Ret → (x ≡ next.Return) → d ≡ before.call → goes.last ≡ ran.stage.numbers →
          e.hand ≡ results_of (slice_get its.ready.values.items its.course.control) ran.stage.numbers q.f.sig ran.stage.words → Yields x
      returned id ctrl kind k l m hand = yields_as next.Return k (record {
        world = y;
        run = run_end Ret kind ∙ ap (λ rs. resume p q.frames (gives rs y)) (sym (hand ∙ results_taken p learnt.set q.f q.b q.m (due_level q.f q.b (first_state q.b q.m)) due_class done order g ran.stage c y at learnt.places its.ready.values.items learnt.values id its.course.control ctrl (block_known.control ∙ ap (control_place q.f) ctrl)));
        window = at.window ∙ sym ran.window;
        left = le ∙ q.left;
        func = ap (λ (z : Active). z.func) l;
        base = ap (λ (z : Active). z.base) l;
        front = goes.last;
        numbers = now_numbers;
        long = ap length m ∙ at.long ∙ ap (λ n. n + 1) (sym values_length);
      })

      by_kind : (k : Kind) → q.b.kind ≡ k → FitsKind q.b.kind q.b.succs q.b.control → Leaves q.b.kind q.f.sig its.ready its.course before behind x → Yields x
      by_kind k e fits leaves = go k e (let P : Kind → Type 0 = λ z. FitsKind z q.b.succs q.b.control in subst P e fits) (let P : Kind → Type 0 = λ z. Leaves z q.f.sig its.ready its.course before behind x in subst P e leaves) q.b.control refl
        where
          go : (k : Kind) → q.b.kind ≡ k → FitsKind k q.b.succs q.b.control → Leaves k q.f.sig its.ready its.course before behind x → (o : Option ℕ) → q.b.control ≡ o → Yields x
          go Plain e fits leaves o w = first_edge fits.0 Plain (run_end Plain e) leaves
          go First e fits leaves o w = let s = get_there q.b.succs 0 (let l = fits.0 in omega (arith, l)) in zero_edge s.0 s.1 (run_end First e) leaves
          go If e fits leaves None w = absurd (no_control q.b.control fits.1 w)
          go If e fits leaves (Some id) w = two_edges id w fits.0 e (slice_index ran.stage.numbers its.course.control % 2 == 0) refl leaves
          go Ret e fits leaves None w = absurd (no_control q.b.control fits.1 w)
          go Ret e fits leaves (Some id) w = returned id w e leaves.0 leaves.1 leaves.2 leaves.3
          go Exit e fits leaves o w = yields_as (next.Trap 6) leaves (run_end Exit e ∙ resume_stops p q.frames (trapped 6) y.window ∙ ap (λ d. stops (trapped 6) d) (at.window ∙ sym ran.window))

  -- what a machine that is inside a block comes to
  pub moved_so : Yields x
  moved_so = go ran.after refl turns.0 ran.went
    where
      go : (z : After) → ran.after ≡ z → Comes ran.after (flat (called (run q.k p) p) p q.f left q.act q.world) (λ c y. IsAt p q.f q.b q.m g done ran.stage c y × (c.stack ≡ q.act.stack) × (y.left ≡ q.world.left)) ran.stage.window →
          Goes ran.after q.b.kind q.f.sig its.ready its.course before behind x → Yields x
      go z e comes went = by z e (let P : After → Type 0 = λ t. Comes t (flat (called (run q.k p) p) p q.f left q.act q.world) (λ c y. IsAt p q.f q.b q.m g done ran.stage c y × (c.stack ≡ q.act.stack) × (y.left ≡ q.world.left)) ran.stage.window in subst P e comes)
          (let P : After → Type 0 = λ t. Goes t q.b.kind q.f.sig its.ready its.course before behind x in subst P e went)
        where
          by : (z : After) → ran.after ≡ z → Comes z (flat (called (run q.k p) p) p q.f left q.act q.world) (λ c y. IsAt p q.f q.b q.m g done ran.stage c y × (c.stack ≡ q.act.stack) × (y.left ≡ q.world.left)) ran.stage.window →
              Goes z q.b.kind q.f.sig its.ready its.course before behind x → Yields x
          by after.On e (c, y, k, (at, st, le)) went = on_end c y k at st le went
          by (after.Trap t) e k went = yields_as (next.Trap t) went (after_trap (trapped t) k)
          by (after.Wild t) e k went = yields_as (next.Wild t) went (after_trap (wild t) k)
          by after.Call e k went = on_call went (turns.1 e)

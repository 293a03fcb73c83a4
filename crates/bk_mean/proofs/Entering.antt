-- A machine at the entry of a block, and at a call, goes on.
use Rattle.std.proofs.Common.{◌≡◌, ℕ, zero, suc, ◌-◌, ◌≤◌, refl, ap, sym, ◌∙◌, subst, arith, ◌⊎◌, inl, inr, List, [], ◌∷◌, ◌++◌, length, drop, Option, Some, Bool, true, false}
use Rattle.std.specs.Prelude.{slice_get, slice_index, nat_lt}
use Rattle.bk_ops.specs.declared.types.Ty.{Ty}
use Rattle.bk_func.specs.Records.{SigRecord, ValueRecord, BlockRecord, FuncRecord}
use Rattle.bk_func.specs.Words.{words_at}
use Rattle.bk_func.specs.Numbers.{Program}
use Rattle.bk_func.specs.Effects.{call, call_words, effect_of}
use Rattle.bk_func.specs.Symbols.{sig_of, symbol_of}
use Rattle.bk_func.specs.Meaning.{World, Run, stops, trapped, going, Activation, entered, entry_id, fresh, run, words_sent, begun}
use Rattle.bk_mean.specs.Seen.{word_in}
use Rattle.bk_mean.specs.Running.{Held, Begun, TakesWords}
use Rattle.bk_mean.specs.declared.machine.Activation.{Activation as Active}
use Rattle.bk_mean.specs.declared.ready.Ready.{Ready}
use Rattle.bk_mean.specs.declared.step.CallWords.{CallWords}
use Rattle.bk_mean.specs.declared.words.Words.{Words}
use Rattle.bk_mean.specs.declared.symbols.Callee.{Callee}
use Rattle.bk_mean.specs.declared.symbols.Callee.TheVariants.{Func, PanicDivide, PanicShift, Missing}
use Rattle.bk_places.proofs.Elements.{to_contains}
use Rattle.bk_mean.proofs.Named.{got_in, found_block}
use Rattle.bk_mean.proofs.Formed.{sound}
use Rattle.bk_mean.proofs.Arranged.{values_at}
use Rattle.bk_mean.proofs.Resuming.{Frame, inside, resume, resume_stops, run_spent, run_enters, by_callee, called_by}
use Rattle.bk_mean.proofs.Stacking.{Learnt, Sits, Suspended, WordsTaken, Stacked, bottom, more, Within, Heads, Calling}
use Rattle.bk_mean.proofs.Starting.{begun_heads, begun_traps, begun_enters, callee_sig}

-- fewer blocks are left
stacked_lower : (p : Program) (readies : List (Option Ready)) (m n : ℕ) → m ≤ n → (frs : List Frame) (cs : List Active) (ns : List ℕ) (g : FuncRecord) → Stacked p readies n frs cs ns g → Stacked p readies m frs cs ns g
stacked_lower p readies m n l _ _ _ _ (bottom g) = bottom g
stacked_lower p readies m n l _ _ _ _ (more frs cs ns fr c front args g s base w) =
    more frs cs ns fr c front args g (stacked_lower p readies m n l frs cs ns fr.func s) base
    (record { window = w.window; world = w.world; words = w.words; waits = w.waits; taken = w.taken; sig = w.sig; fuel = (let q = w.fuel in omega (arith, q, l)) })

-- more functions are made ready
abbrev pub Grows : List (Option Ready) → List (Option Ready) → Type 0
Grows old new = (i : ℕ) (r : Ready) → slice_get old i ≡ Some (Some r) → slice_get new i ≡ Some (Some r)

module _ (p : Program) (old new : List (Option Ready)) (grows : Grows old new) where
  learnt_grows : (i : ℕ) (f : FuncRecord) (r : Ready) → Learnt p old i f r → Learnt p new i f r
  learnt_grows i f r l = record { places = l.places; func = l.func; ready = grows i r l.ready; set = l.set; formed = l.formed; values = l.values; kept = l.kept; blocks = l.blocks; order = l.order }

  abbrev sits_grows : (k i : ℕ) (f : FuncRecord) (b : BlockRecord) (m : ℕ) (pre rest : List ValueRecord) (c : Active) (front args : List ℕ) (words : CallWords) (window : List ℕ) (a : Activation) (w : World) →
      Sits p old k i f b m pre rest c front args words window a w → Sits p new k i f b m pre rest c front args words window a w
  sits_grows k i f b m pre rest c front args words window a w s = record {
    ready = s.ready;
    learnt = learnt_grows i f s.ready s.learnt;
    func = s.func;
    block = s.block;
    course = s.course;
    its = s.its;
    arrives = s.arrives;
    parts = s.parts;
    at = s.at;
    stack = s.stack;
    fuel = s.fuel;
  }

  suspended_grows : (fr : Frame) (c : Active) (front args : List ℕ) (words : CallWords) (window : List ℕ) (w : World) → Suspended p old fr c front args words window w → Suspended p new fr c front args words window w
  suspended_grows fr c front args words window w s = record {
    m = s.m;
    pre = s.pre;
    sits = sits_grows fr.fuel fr.place fr.func fr.block s.m s.pre (fr.value ∷ fr.rest) c front args words window fr.act w s.sits;
    left = s.left;
    stands = s.stands;
    by = s.by;
  }

  stacked_grows : (n : ℕ) (frs : List Frame) (cs : List Active) (ns : List ℕ) (g : FuncRecord) → Stacked p old n frs cs ns g → Stacked p new n frs cs ns g
  stacked_grows n _ _ _ _ (bottom g) = bottom g
  stacked_grows n _ _ _ _ (more frs cs ns fr c front args g s base w) =
      more frs cs ns fr c front args g (stacked_grows n frs cs ns fr.func s) base
      (record { window = w.window; world = w.world; words = w.words; waits = suspended_grows fr c front args w.words w.window w.world w.waits; taken = w.taken; sig = w.sig; fuel = w.fuel })

-- at the entry of a block, with one more that may be entered, a machine is inside it
pub heads_within : (p : Program) (readies : List (Option Ready)) (l : ℕ) (h : Held) (r : Run (List ℕ)) → Heads p readies (suc l) h r → Within p readies l h r
heads_within p readies l h r q = go q.k refl
  where
    its : Sits p readies q.k q.i q.f q.b q.act.memory [] q.rest q.top q.front q.args q.top.words h.window (entered p q.f q.b q.place q.act q.world) q.world
    its = q.sits

    go : (k : ℕ) → q.k ≡ k → Within p readies l h r
    go zero e = let a = q.sits.fuel in let b = q.left in absurd (omega (arith, a, b, e))
    go (suc k) e = record {
      frames = q.frames;
      calls = q.calls;
      numbers = q.numbers;
      top = q.top;
      front = q.front;
      args = q.args;
      k = k;
      i = q.i;
      f = q.f;
      b = q.b;
      m = q.act.memory;
      pre = [];
      rest = q.rest;
      act = entered p q.f q.b q.place q.act (record q.world { left = l });
      world = record q.world { left = l };
      has_calls = q.has_calls;
      has_numbers = q.has_numbers;
      base = q.base;
      stacked = stacked_lower p readies l (suc l) (omega arith) q.frames q.calls q.numbers q.f q.stacked;
      sits = record {
        ready = q.sits.ready;
        learnt = q.sits.learnt;
        func = q.sits.func;
        block = q.sits.block;
        course = q.sits.course;
        its = q.sits.its;
        arrives = q.sits.arrives;
        parts = q.sits.parts;
        at = record {
          target = q.sits.at.target;
          args = q.sits.at.args;
          knows = q.sits.at.knows;
          blank = q.sits.at.blank;
          long = q.sits.at.long;
          memory = q.sits.at.memory;
          shown = q.sits.at.shown;
          window = q.sits.at.window;
          out = q.sits.at.out;
          back = q.sits.at.back;
          regs = q.sits.at.regs;
        };
        stack = q.sits.stack;
        fuel = (let a = q.sits.fuel in let b = q.left in omega (arith, a, b, e));
      };
      next = q.next;
      run = q.run
          ∙ ap (λ j. resume p q.frames (run j p q.i q.act q.b.id q.place q.world)) e
          ∙ ap (λ z. resume p q.frames z) (
          run_enters k l p q.i q.act q.b.id q.place q.world q.f q.b (values_at q.b.values q.sits.course.order.items) q.left q.sits.learnt.func
          (found_block q.f (sound q.sits.learnt.set q.f q.sits.learnt.formed).named q.b (to_contains q.b q.f.blocks (got_in q.f.blocks q.top.block q.b q.sits.block)))
          (q.sits.learnt.order q.top.block q.b q.sits.course q.sits.block q.sits.its q.act.memory q.sits.arrives).laid
          )
          ∙ ap (λ vs. resume p q.frames (inside p q.i q.f q.b k vs (entered p q.f q.b q.place q.act (record q.world { left = l })) (record q.world { left = l }))) q.sits.parts;
      left = refl;
    }

-- with none left the run goes no further
pub heads_spent : (p : Program) (readies : List (Option Ready)) (h : Held) (r : Run (List ℕ)) → Heads p readies 0 h r → r ≡ stops going h.window
heads_spent p readies h r q =
    q.run
    ∙ ap (λ z. resume p q.frames z) (run_spent q.k p q.i q.act q.b.id q.place q.world q.left)
    ∙ resume_stops p q.frames going q.world.window
    ∙ ap (λ d. stops going d) q.sits.at.window

-- a call of a function of the run-time system, or of none, traps
pub calling_traps : (p : Program) (readies : List (Option Ready)) (n : ℕ) (h : Held) (r : Run (List ℕ)) (what : Callee) (words : Bool) → Calling p readies n h r what words → (t : ℕ) →
    ((what ≡ PanicDivide) × (t ≡ 3)) ⊎ ((what ≡ PanicShift) × (t ≡ 4)) ⊎ ((what ≡ Missing) × (t ≡ 6)) → r ≡ stops (trapped t) h.window
calling_traps p readies n h r what words q t k =
    q.run
    ∙ ap (resume p (q.frame ∷ q.frames)) (called_by (run q.frame.fuel p) p (symbol_of q.frame.value.aux) q.given q.frame.act.stack q.world ∙ ap (λ z. by_callee z (run q.frame.fuel p) p q.given q.frame.act.stack q.world) (sym q.callee) ∙ by k)
    ∙ resume_stops p (q.frame ∷ q.frames) (trapped t) q.world.window
    ∙ ap (λ d. stops (trapped t) d) q.waits.sits.at.window
  where
    by : ((what ≡ PanicDivide) × (t ≡ 3)) ⊎ ((what ≡ PanicShift) × (t ≡ 4)) ⊎ ((what ≡ Missing) × (t ≡ 6)) → by_callee what (run q.frame.fuel p) p q.given q.frame.act.stack q.world ≡ stops (trapped t) q.world.window
    by (inl (e, k)) = ap (λ z. by_callee z (run q.frame.fuel p) p q.given q.frame.act.stack q.world) e ∙ ap (λ j. stops (trapped j) q.world.window) (sym k)
    by (inr (inl (e, k))) = ap (λ z. by_callee z (run q.frame.fuel p) p q.given q.frame.act.stack q.world) e ∙ ap (λ j. stops (trapped j) q.world.window) (sym k)
    by (inr (inr (e, k))) = ap (λ z. by_callee z (run q.frame.fuel p) p q.given q.frame.act.stack q.world) e ∙ ap (λ j. stops (trapped j) q.world.window) (sym k)

module _ (p : Program) (readies : List (Option Ready)) (n : ℕ) (h : Held) (r : Run (List ℕ)) (what : Callee) (words : Bool) (q : Calling p readies n h r what words) (i : ℕ) (is_func : what ≡ Func i) (f : FuncRecord) (func : slice_get p.pkg.funcs i ≡ Some f) where
  called_run : r ≡ resume p (q.frame ∷ q.frames) (begun (run q.frame.fuel p) p i q.given q.frame.act.stack q.world)
  called_run =
      q.run
      ∙ ap (resume p (q.frame ∷ q.frames)) (called_by (run q.frame.fuel p) p (symbol_of q.frame.value.aux) q.given q.frame.act.stack q.world
      ∙ ap (λ z. by_callee z (run q.frame.fuel p) p q.given q.frame.act.stack q.world) (sym q.callee ∙ is_func))

  -- a call of a function that has no room for its frame
  pub calling_full : nat_lt q.top.stack (slice_index p.frames i) ≡ true → r ≡ stops (trapped 5) h.window
  calling_full t =
      called_run
      ∙ ap (resume p (q.frame ∷ q.frames)) (begun_traps p i f q.given q.frame.act.stack q.frame.fuel q.world func (ap (λ s. nat_lt s (slice_index p.frames i)) (sym q.waits.sits.stack) ∙ t))
      ∙ resume_stops p (q.frame ∷ q.frames) (trapped 5) q.world.window
      ∙ ap (λ d. stops (trapped 5) d) q.waits.sits.at.window

  -- a call of a function that has
  module _ (more_ready : List (Option Ready)) (grows : Grows readies more_ready) (ready : Ready) (learnt : Learnt p more_ready i f ready) (room : nat_lt q.top.stack (slice_index p.frames i) ≡ false) where
    sig_same : sig_of p.pkg (symbol_of q.frame.value.aux) ≡ f.sig
    sig_same = callee_sig p.pkg (symbol_of q.frame.value.aux) i f (sym q.callee ∙ is_func) func

    run_now : r ≡ resume p (q.frame ∷ q.frames) (run q.frame.fuel p i (fresh q.given (q.top.stack - slice_index p.frames i)) (entry_id f.blocks) 0 q.world)
    run_now =
        called_run
        ∙ ap (resume p (q.frame ∷ q.frames)) (begun_enters p i f q.given q.frame.act.stack q.frame.fuel q.world func (ap (λ s. nat_lt s (slice_index p.frames i)) (sym q.waits.sits.stack) ∙ room))
        ∙ ap (λ s. resume p (q.frame ∷ q.frames) (run q.frame.fuel p i (fresh q.given (s - slice_index p.frames i)) (entry_id f.blocks) 0 q.world)) (sym q.waits.sits.stack)

    -- the call begins on the numbers at hand
    heads_now : (m b : Held) → m.hand ≡ q.given → m.window ≡ h.window → Stacked p more_ready n (q.frame ∷ q.frames) m.calls m.numbers f → Begun i (length ready.values.items) (q.top.stack - slice_index p.frames i) m b → Heads p more_ready n b r
    heads_now m b hand win stacked begun =
        let P : Run (List ℕ) → Type 0 = λ z. Heads p more_ready n b z in
        subst P (ap (λ xs. resume p (q.frame ∷ q.frames) (run q.frame.fuel p i (fresh xs (q.top.stack - slice_index p.frames i)) (entry_id f.blocks) 0 q.world)) hand ∙ sym run_now)
        (begun_heads p more_ready n i q.frame.fuel (q.top.stack - slice_index p.frames i) f ready learnt (q.frame ∷ q.frames) m b stacked begun q.world (q.waits.sits.at.window ∙ sym win) q.left q.fuel)

    stacked_on : (top : Active) → top.func ≡ q.top.func → top.block ≡ q.top.block → top.stack ≡ q.top.stack → top.next ≡ q.top.next → top.called_by ≡ q.top.called_by → top.base ≡ q.top.base → WordsTaken q.frame q.top.words top.words →
        Stacked p more_ready n (q.frame ∷ q.frames) (q.calls ++ top ∷ []) (q.numbers ++ (q.front ++ q.args)) f
    stacked_on top fu bl st ne by ba taken =
        more q.frames q.calls q.numbers q.frame top q.front q.args f (stacked_grows p readies more_ready grows n q.frames q.calls q.numbers q.frame.func q.stacked) (ba ∙ q.base)
        (record {
          window = h.window;
          world = q.world;
          words = q.top.words;
          waits = record {
            m = waits.m;
            pre = waits.pre;
            sits = record {
              ready = waits.sits.ready;
              learnt = waits.sits.learnt;
              func = fu ∙ waits.sits.func;
              block = ap (slice_get q.frame.func.blocks) bl ∙ waits.sits.block;
              course = waits.sits.course;
              its = ap (slice_get waits.sits.ready.blocks.items) bl ∙ waits.sits.its;
              arrives = waits.sits.arrives;
              parts = waits.sits.parts;
              at = waits.sits.at;
              stack = st ∙ waits.sits.stack;
              fuel = waits.sits.fuel;
            };
            left = waits.left ∙ ap (λ k. values_at q.frame.block.values (drop k waits.sits.course.order.items)) (sym ne);
            stands = waits.stands;
            by = by ∙ waits.by;
          };
          taken = taken;
          sig = sig_same;
          fuel = q.fuel;
        })
      where
        waits : Suspended p more_ready q.frame q.top q.front q.args q.top.words h.window q.world
        waits = suspended_grows p readies more_ready grows q.frame q.top q.front q.args q.top.words h.window q.world q.waits

    -- on the numbers at hand
    pub calling_begins : words ≡ false → (b : Held) → Begun i (length ready.values.items) (q.top.stack - slice_index p.frames i) h b → Heads p more_ready n b r
    calling_begins off b begun = go q.how
      where
        go : ((effect_of q.frame.value.op.family q.frame.value.ty ≡ Some call) × (words ≡ false) × (h.hand ≡ q.given))
            ⊎ ((effect_of q.frame.value.op.family q.frame.value.ty ≡ Some call_words) × (words ≡ true) × (q.given ≡ words_sent p (sig_of p.pkg (symbol_of q.frame.value.aux)) h.hand q.frame.act.out)) → Heads p more_ready n b r
        go (inl (e, o, hand)) =
            let P : List Active → Type 0 = λ z. Stacked p more_ready n (q.frame ∷ q.frames) z h.numbers f in
            let S : List ℕ → Type 0 = λ z. Stacked p more_ready n (q.frame ∷ q.frames) (q.calls ++ q.top ∷ []) z f in
            heads_now h b hand refl (subst P (sym q.has_calls) (subst S (sym q.has_numbers) (stacked_on q.top refl refl refl refl refl refl (inl (e, refl))))) begun
        go (inr (e, o, giv)) = absurd (let z = sym o ∙ off in cc)

    -- and on the words that were written
    pub calling_takes : words ≡ true → (m b : Held) → TakesWords (length f.sig.args) h m → Begun i (length ready.values.items) (q.top.stack - slice_index p.frames i) m b → Heads p more_ready n b r
    calling_takes on m b takes begun = go q.how (takes.calls q.calls q.top q.has_calls)
      where
        go : ((effect_of q.frame.value.op.family q.frame.value.ty ≡ Some call) × (words ≡ false) × (h.hand ≡ q.given))
            ⊎ ((effect_of q.frame.value.op.family q.frame.value.ty ≡ Some call_words) × (words ≡ true) × (q.given ≡ words_sent p (sig_of p.pkg (symbol_of q.frame.value.aux)) h.hand q.frame.act.out)) →
            (w : Words) × ((k : ℕ) → word_in w k ≡ 0) × (m.calls ≡ q.calls ++ (record q.top { words = record { out = w; back = q.top.words.back; regs = q.top.words.regs } }) ∷ []) → Heads p more_ready n b r
        go (inl (e, o, hand)) w = absurd (let z = sym o ∙ on in cc)
        go (inr (e, o, giv)) (w, zero_all, calls) =
            let P : List Active → Type 0 = λ z. Stacked p more_ready n (q.frame ∷ q.frames) z m.numbers f in
            let S : List ℕ → Type 0 = λ z. Stacked p more_ready n (q.frame ∷ q.frames) (q.calls ++ (record q.top { words = record { out = w; back = q.top.words.back; regs = q.top.words.regs } }) ∷ []) z f in
            heads_now m b sent takes.window
            (subst P (sym calls) (subst S (sym (takes.numbers ∙ q.has_numbers)) (stacked_on (record q.top { words = record { out = w; back = q.top.words.back; regs = q.top.words.regs } }) refl refl refl refl refl refl (inr (e, zero_all, refl, refl)))))
            begun
          where
            sent : m.hand ≡ q.given
            sent =
                takes.hand q.calls q.top q.has_calls
                ∙ ap (λ o. h.hand ++ words_at o (length h.hand) (length f.sig.args - length h.hand)) (sym q.waits.sits.at.out)
                ∙ ap (λ (t : List Ty → List Ty). h.hand ++ words_at q.frame.act.out (length h.hand) (length (t f.sig.args) - length h.hand)) (sym learnt.places)
                ∙ ap (λ (z : SigRecord). words_sent p z h.hand q.frame.act.out) (sym sig_same)
                ∙ sym giv

-- a run begins
pub starts_full : (p : Program) (i : ℕ) (f : FuncRecord) (args window : List ℕ) (stack n : ℕ) → slice_get p.pkg.funcs i ≡ Some f → nat_lt stack (slice_index p.frames i) ≡ true →
    begun (run n p) p i args stack (record { window = window; left = n }) ≡ stops (trapped 5) window
starts_full p i f args window stack n func t = begun_traps p i f args stack n (record { window = window; left = n }) func t

pub starts_heads : (p : Program) (readies : List (Option Ready)) (i : ℕ) (f : FuncRecord) (ready : Ready) → Learnt p readies i f ready → (stack n : ℕ) (a b : Held) → a.calls ≡ [] → a.numbers ≡ [] → nat_lt stack (slice_index p.frames i) ≡ false →
    Begun i (length ready.values.items) (stack - slice_index p.frames i) a b → Heads p readies n b (begun (run n p) p i a.hand stack (record { window = a.window; left = n }))
starts_heads p readies i f ready learnt stack n a b calls numbers room begun =
    let P : Run (List ℕ) → Type 0 = λ z. Heads p readies n b z in
    let C : List Active → Type 0 = λ z. Stacked p readies n [] z a.numbers f in
    let N : List ℕ → Type 0 = λ z. Stacked p readies n [] [] z f in
    subst P (sym (begun_enters p i f a.hand stack n (record { window = a.window; left = n }) learnt.func room))
    (begun_heads p readies n i n (stack - slice_index p.frames i) f ready learnt [] a b (subst C (sym calls) (subst N (sym numbers) (bottom f))) begun (record { window = a.window; left = n }) refl refl (omega arith))

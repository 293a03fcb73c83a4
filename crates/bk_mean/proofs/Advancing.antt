-- A machine that advances comes to what its run means.
use Rattle.std.proofs.Common.{◌≡◌, ℕ, ◌+◌, ◌-◌, ◌<◌, ◌≢◌, refl, ap, sym, ◌∙◌, subst, arith, ◌⊎◌, inl, inr, List, [], ◌∷◌, ◌++◌, length, take, append_assoc, length-append, Option, Some, None, Bool, true, false}
use Rattle.std.specs.Prelude.{slice_get, slice_index, is_some, Vec, if◌then◌else◌}
use Rattle.std.specs.declared.alloc.Global.{Global}
use Rattle.std.proofs.Math.Path.{fun_ext}
use Rattle.std.proofs.lemmas.Bool.{cases_eq}
use Rattle.bk_ops.specs.declared.types.Target.{Target}
use Rattle.bk_ops.specs.declared.family.Family.{Family}
use Rattle.bk_ops.specs.declared.family.Family.TheVariants as op
use Rattle.bk_func.specs.Records.{ValueRecord, FuncRecord, PackageRecord}
use Rattle.bk_func.specs.Numbers.{Program, is_mem}
use Rattle.bk_func.specs.Effects.{Effect, call, call_words, pass, effect_of, has_effect}
use Rattle.bk_func.specs.Meaning.{World, Run, gives, stops, trapped, wild, Activation, first_state, with_given, in_state}
use Rattle.bk_func.specs.declared.form.FormKind.TheVariants.{Missing}
use Rattle.bk_func.proofs.Faults.{In}
use Rattle.bk_func.proofs.Flat.{one}
use Rattle.bk_mean.specs.Numbering.{place_in}
use Rattle.bk_mean.specs.Ready.{kept_by}
use Rattle.bk_mean.specs.Seen.{word_in}
use Rattle.bk_mean.specs.Running.{Held, stored, keep_all, Ended, top, Moved, Advanced, none, on, back}
use Rattle.bk_mean.specs.declared.machine.Activation.{Activation as Active}
use Rattle.bk_mean.specs.declared.ready.Ready.{Ready}
use Rattle.bk_mean.specs.declared.ready.Kept.{Kept}
use Rattle.bk_mean.specs.declared.step.CallWords.{CallWords}
use Rattle.bk_mean.specs.declared.turn.Next.{Next}
use Rattle.bk_mean.specs.declared.turn.Next.TheVariants as next
use Rattle.bk_mean.proofs.Named.{found_value}
use Rattle.bk_mean.proofs.Formed.{Sound, sound}
use Rattle.bk_mean.proofs.Arranged.{due_level, due_class, values_at}
use Rattle.bk_mean.proofs.Along.{IsShown}
use Rattle.bk_mean.proofs.Knowing.{IsResultOf}
use Rattle.bk_mean.proofs.Filling.{number_given}
use Rattle.bk_mean.proofs.Tabled.{table, place_apart, place_below}
use Rattle.bk_mean.proofs.Keeping.{kept_given, keep_length, keep_other, keep_own, keep_within}
use Rattle.bk_mean.proofs.Doing.{IsAt, put_there, returns_so}
use Rattle.bk_mean.proofs.Resuming.{Frame, gave, resume, return_run, one_acts}
use Rattle.bk_mean.proofs.Stacking.{KeepsResults, Sits, WordsTaken, IsWaiting, Stacked, bottom, more, Within, Heads, Calling, ground}
use Rattle.bk_mean.proofs.Moving.{take_all, Returned, Yields, moved_so}

-- lists with one more at their end

snoc_same : {A : Type 0} (xs ys : List A) (x y : A) → xs ++ x ∷ [] ≡ ys ++ y ∷ [] → (xs ≡ ys) × (x ≡ y)
snoc_same [] [] x y e = (refl, cc)
snoc_same [] (z ∷ ys) x y e = let l = ap length e in let k = length-append ys (y ∷ []) in absurd (omega (arith, l, k))
snoc_same (z ∷ xs) [] x y e = let l = ap length e in let k = length-append xs (x ∷ []) in absurd (omega (arith, l, k))
snoc_same {A} (z ∷ xs) (w ∷ ys) x y e =
    let a : z ≡ w = cc in
    let b : xs ++ x ∷ [] ≡ ys ++ y ∷ [] = cc in
    let r = snoc_same xs ys x y b in
    ((let c = r.0 in cc), r.1)

snoc_some : {A : Type 0} (xs : List A) (x : A) → xs ++ x ∷ [] ≡ [] → ⊥
snoc_some xs x e = let l = ap length e in let k = length-append xs (x ∷ []) in omega (arith, l, k)

pub snoc_top : (cs : List Active) (c : Active) → top (cs ++ c ∷ []) ≡ Some c
snoc_top cs c =
    let n : length (cs ++ c ∷ []) - 1 ≡ length cs = (let l = length-append cs (c ∷ []) in omega (arith, l)) in
    ap (slice_get (cs ++ c ∷ [])) n ∙ at_end cs
  where
    at_end : (xs : List Active) → slice_get (xs ++ c ∷ []) (length xs) ≡ Some c
    at_end [] = refl
    at_end (x ∷ xs) = at_end xs

-- what a machine comes to
abbrev pub Reaches : Program → List (Option Ready) → ℕ → Held → Run (List ℕ) → Next → Type 0
Reaches p readies n e r next.Enter = Heads p readies n e r
Reaches p readies n e r (next.Call what on_words) = Calling p readies n e r what on_words
Reaches p readies n e r (next.Trap t) = r ≡ stops (trapped t) e.window
Reaches p readies n e r (next.Wild t) = r ≡ stops (wild t) e.window
Reaches p readies n e r next.Return = (y : World) × (r ≡ gives e.hand y) × (y.window ≡ e.window)

-- with no call nothing is done
empty_stays : (t : Target) (p : PackageRecord) (readies : List (Option Ready)) (a e : Held) (x : Next) → Advanced t p readies a e x → a.calls ≡ [] → (e ≡ a) × (x ≡ next.Return)
empty_stays t p readies _ _ _ (none a i) k = (refl, refl)
empty_stays t p readies _ _ _ (on a b cs c d x i j m n) k = absurd (snoc_some cs c (sym i ∙ k))
empty_stays t p readies _ _ _ (back a m b e cs c d x i j mv en w rest) k = absurd (snoc_some cs c (sym i ∙ k))

-- a call that waits, when what it called has returned
module _ (p : Program) (readies : List (Option Ready)) (n : ℕ) (fr : Frame) (c : Active) (front args : List ℕ) (g : FuncRecord) (w : IsWaiting p readies n fr c front args g) (rs : List ℕ) (y : World) where
  abbrev its : Sits p readies fr.fuel fr.place fr.func fr.block w.waits.m w.waits.pre (fr.value ∷ fr.rest) c front args w.words w.window fr.act w.world
  its = w.waits.sits

  its_sound : Sound its.learnt.set fr.func
  its_sound = sound its.learnt.set fr.func its.learnt.formed

  pub record After_call : Type 0 where
    pub act : Activation
    pub runs : (x : World) → one (gave rs y) p fr.func fr.value fr.act x ≡ gives act y
    pub env_args : act.env.args ≡ fr.act.env.args
    pub memory : act.memory ≡ fr.value.id
    pub shown : IsShown act y
    pub out : act.out ≡ word_in c.words.out
    pub back : act.back ≡ word_in c.words.back
    pub regs : act.regs ≡ c.words.regs.items
    pub stack : act.stack ≡ fr.act.stack
    pub gives_it : act.env.given fr.value.id ≡ rs

  pub after_call : After_call
  after_call = go w.taken
    where
      go : WordsTaken fr w.words c.words → After_call
      go (inl (e, k)) = record {
        act = in_state fr.value.id (with_given fr.act fr.value.id rs) y;
        runs = λ x. one_acts (gave rs y) p fr.func fr.value fr.act x call e;
        env_args = refl;
        memory = refl;
        shown = put_there fr.act.env.windows fr.value.id y.window;
        out = its.at.out ∙ ap (λ (z : CallWords). word_in z.out) (sym k);
        back = its.at.back ∙ ap (λ (z : CallWords). word_in z.back) (sym k);
        regs = its.at.regs ∙ ap (λ (z : CallWords). z.regs.items) (sym k);
        stack = refl;
        gives_it = put_there fr.act.env.given fr.value.id rs;
      }
      go (inr (e, k, b, l)) = record {
        act = in_state fr.value.id (record (with_given fr.act fr.value.id rs) { out = λ k. 0 }) y;
        runs = λ x. one_acts (gave rs y) p fr.func fr.value fr.act x call_words e;
        env_args = refl;
        memory = refl;
        shown = put_there fr.act.env.windows fr.value.id y.window;
        out = sym (fun_ext k);
        back = its.at.back ∙ ap word_in (sym b);
        regs = its.at.regs ∙ ap (λ (z : Vec ℕ Global). z.items) (sym l);
        stack = refl;
        gives_it = put_there fr.act.env.given fr.value.id rs;
      }

  acts : has_effect fr.value ≡ true
  acts = elim w.taken as (λ _. has_effect fr.value ≡ true) [ inl k ↦ ap is_some k.0 | inr k ↦ ap is_some k.0 ]

  selects_not : ¬ (fr.value.op.family ≡ op.SelectN)
  selects_not e = elim w.taken as (λ _. ⊥) [ inl k ↦ no_select call (λ z. cc) (λ z. cc) k.0 e | inr k ↦ no_select call_words (λ z. cc) (λ z. cc) k.0 e ]
    where
      no_select : (z : Effect) → ¬ (Some pass ≡ Some z) → ¬ (◌≡◌ {A = Option Effect} None (Some z)) → effect_of fr.value.op.family fr.value.ty ≡ Some z → fr.value.op.family ≡ op.SelectN → ⊥
      no_select z a b e k = go (is_mem fr.value.ty) (ap (λ (f : Family). effect_of f fr.value.ty) (sym k) ∙ e)
        where
          go : (t : Bool) → (if t then Some pass else None) ≡ Some z → ⊥
          go true q = a q
          go false q = b q

  -- the numbers once the results are kept
  module _ (ks : List Kept) (keeps : KeepsResults fr.func fr.block fr.value ks) where
    abbrev count : ℕ
    count = length g.sig.args

    abbrev front_then : List ℕ
    front_then = keep_all p.target count 0 ks rs front

    -- what is kept has places among the values
    pub short : (k : Kept) → In k ks → k.place < length front
    short k i =
        let q = keeps.only k i in
        let l = place_below its.learnt.set fr.func (its.learnt.formed.kinds Missing) fr.block q.0 q.1.0 in
        let e = ap (λ (z : Kept). z.place) q.2 in
        let m = its.at.long in
        omega (arith, l, e, m)

    kept_there : (u : ValueRecord) → IsResultOf fr.func fr.block fr.value u → table fr.func front_then u.id ≡ number_given p fr.func u rs
    kept_there u q =
        let z : 0 + place_in fr.func u.id ≡ place_in fr.func u.id = omega arith in
        let l = place_below its.learnt.set fr.func (its.learnt.formed.kinds Missing) fr.block u q.0 in
        let m = its.at.long in
        ap (slice_index front_then) (sym z)
        ∙ keep_own p.target count 0 ks rs front (kept_by fr.func u) one (omega (arith, l, m)) (inl (keeps.all u q))
        ∙ kept_given p fr.func g u fr.value rs its.learnt.places (found_value fr.func its_sound.named fr.block fr.value (slice_index u.args 0) w.waits.stands (sym q.2)) w.sig
      where
        one : (k : Kept) → In k ks → k.place ≡ place_in fr.func u.id → k ≡ kept_by fr.func u
        one k i e = go (keeps.only k i)
          where
            go : (t : ValueRecord) × IsResultOf fr.func fr.block fr.value t × (k ≡ kept_by fr.func t) → k ≡ kept_by fr.func u
            go (t, r, s) = by (cases_eq t.id u.id)
              where
                by : (t.id ≡ u.id) ⊎ (t.id ≡ u.id → ⊥) → k ≡ kept_by fr.func u
                by (inl d) = s ∙ ap (kept_by fr.func) (its_sound.named.same_value fr.block fr.block t u r.0 q.0 d)
                by (inr d) = absurd (place_apart its.learnt.set fr.func (its.learnt.formed.kinds Missing) fr.block u q.0 t.id d (sym (ap (λ (z : Kept). z.place) s) ∙ e))

    others_stay : (m : ℕ) → ((u : ValueRecord) → IsResultOf fr.func fr.block fr.value u → ¬ (u.id ≡ m)) → table fr.func front_then m ≡ table fr.func front m
    others_stay m off = keep_other p.target count 0 ks rs front (place_in fr.func m) apart
      where
        apart : (k : Kept) → In k ks → place_in fr.func m ≢ 0 + k.place
        apart k i e =
            let q = keeps.only k i in
            let z : 0 + k.place ≡ k.place = omega arith in
            place_apart its.learnt.set fr.func (its.learnt.formed.kinds Missing) fr.block q.0 q.1.0 m (λ t. off q.0 q.1 (sym t)) (e ∙ z ∙ ap (λ (z : Kept). z.place) q.2)

    -- the caller goes on behind the call
    pub back_at : (window : List ℕ) → y.window ≡ window →
        IsAt p fr.func fr.block w.waits.m (ground p args) (w.waits.pre ++ fr.value ∷ []) (record { numbers = front_then; window = window; words = c.words }) after_call.act y
    back_at window e =
        returns_so p its.learnt.set fr.func fr.block w.waits.m (due_level fr.func fr.block (first_state fr.block w.waits.m)) due_class (values_at fr.block.values its.course.order.items)
        (its.learnt.order c.block fr.block its.course its.block its.its w.waits.m its.arrives) w.waits.pre fr.value fr.rest its.parts w.waits.stands
        (ground p args) (record { numbers = front; window = w.window; words = w.words }) (record { numbers = front_then; window = window; words = c.words }) fr.act w.world its.at (gave rs y) after_call.act y (after_call.runs w.world) acts selects_not
        after_call.env_args after_call.memory after_call.shown e after_call.out after_call.back after_call.regs (keep_length p.target count 0 ks rs front)
        (λ u q. kept_there u q ∙ ap (number_given p fr.func u) (sym after_call.gives_it)) others_stay

-- the results of a call go to the call that waits, or end the run
module _ (p : Program) (readies : List (Option Ready)) (n : ℕ) (r : Run (List ℕ)) (f : FuncRecord) (d : Active) (a b : Held) (y : World) (left : y.left ≡ n) (func : slice_get p.pkg.funcs d.func ≡ Some f) where
  pub gives_back : (frs : List Frame) (cs : List Active) (ns : List ℕ) (rest : List ℕ) → Stacked p readies n frs cs ns f → r ≡ resume p frs (gives a.hand y) → b.calls ≡ cs →
      a.numbers ≡ ns ++ rest → d.base ≡ length ns → y.window ≡ b.window → Ended p.target p.pkg readies (top cs) d a b →
      (Within p readies n b r) ⊎ ((frs ≡ []) × (cs ≡ []) × (r ≡ gives b.hand y))
  gives_back _ _ _ rest (bottom _) runs calls nums at win ended = inr (refl, refl, runs ∙ ap (λ xs. gives xs y) (sym ended))
  gives_back _ _ _ rest (more frs cs ns fr c own given g stacked its_base waits) runs calls nums at win ended =
      inl (by_kept (waits.waits.sits.learnt.kept fr.block fr.value waits.waits.stands (how waits.taken)))
    where
      how : WordsTaken fr waits.words c.words → (effect_of fr.value.op.family fr.value.ty ≡ Some call) ⊎ (effect_of fr.value.op.family fr.value.ty ≡ Some call_words)
      how (inl k) = inl k.0
      how (inr k) = inr k.0

      to : Ended p.target p.pkg readies (Some c) d a b
      to = (let P : Option Active → Type 0 = λ z. Ended p.target p.pkg readies z d a b in subst P (snoc_top cs c) ended)

      below : take d.base a.numbers ≡ ns ++ (own ++ given)
      below = ap (λ k. take k a.numbers) at ∙ ap (take (length (ns ++ (own ++ given)))) nums ∙ take_all (ns ++ (own ++ given)) rest

      by_kept : (ks : Vec Kept Global) × (slice_get waits.waits.sits.ready.kept.items (place_in fr.func fr.value.id) ≡ Some ks) × KeepsResults fr.func fr.block fr.value ks.items → Within p readies n b r
      by_kept (ks, ks_at, keeps) = record {
        frames = frs;
        calls = cs;
        numbers = ns;
        top = c;
        front = keep_all p.target (length f.sig.args) 0 ks.items a.hand own;
        args = given;
        k = fr.fuel;
        i = fr.place;
        f = fr.func;
        b = fr.block;
        m = waits.waits.m;
        pre = waits.waits.pre ++ fr.value ∷ [];
        rest = fr.rest;
        act = (after_call p readies n fr c own given f waits a.hand y).act;
        world = y;
        has_calls = calls;
        has_numbers =
            to f waits.waits.sits.ready ks func (ap (slice_get readies) waits.waits.sits.func ∙ waits.waits.sits.learnt.ready) (ap (slice_get waits.waits.sits.ready.kept.items) waits.waits.by ∙ ks_at)
            ∙ ap (keep_all p.target (length f.sig.args) c.base ks.items a.hand) below
            ∙ ap (λ k. keep_all p.target (length f.sig.args) k ks.items a.hand (ns ++ (own ++ given))) its_base
            ∙ keep_within p.target (length f.sig.args) ns own given ks.items a.hand (short p readies n fr c own given f waits a.hand y ks.items keeps);
        base = its_base;
        stacked = stacked;
        sits = record {
          ready = waits.waits.sits.ready;
          learnt = waits.waits.sits.learnt;
          func = waits.waits.sits.func;
          block = waits.waits.sits.block;
          course = waits.waits.sits.course;
          its = waits.waits.sits.its;
          arrives = waits.waits.sits.arrives;
          parts = waits.waits.sits.parts ∙ sym (append_assoc waits.waits.pre (fr.value ∷ []) fr.rest);
          at = back_at p readies n fr c own given f waits a.hand y ks.items keeps b.window win;
          stack = waits.waits.sits.stack ∙ sym (after_call p readies n fr c own given f waits a.hand y).stack;
          fuel = (let l = waits.fuel in omega (arith, l, left));
        };
        next = waits.waits.left;
        run = runs ∙ return_run p fr frs a.hand y (after_call p readies n fr c own given f waits a.hand y).act ((after_call p readies n fr c own given f waits a.hand y).runs y);
        left = left;
      }

-- a machine that is inside a block
pub advanced_so : (p : Program) (readies : List (Option Ready)) (a e : Held) (x : Next) → Advanced p.target p.pkg readies a e x → (n : ℕ) (r : Run (List ℕ)) → Within p readies n a r → Reaches p readies n e r x
advanced_so p readies _ _ _ (none a i) n r q = absurd (snoc_some q.calls q.top (sym q.has_calls ∙ i))
advanced_so p readies _ _ _ (on a b cs c d x i j moved off) n r q = go (moved_so p readies n a r q d (stored b) x its_move) x refl
  where
    same : (cs ≡ q.calls) × (c ≡ q.top)
    same = snoc_same cs q.calls c q.top (sym i ∙ q.has_calls)

    its_move : Moved p.target p.pkg readies q.top d (stored a) (stored b) x
    its_move = (let P : Active → Type 0 = λ z. Moved p.target p.pkg readies z d (stored a) (stored b) x in subst P same.1 moved)

    its : ◌≡◌ {A = Held} (record { window = b.window; hand = b.hand; numbers = b.numbers; calls = q.calls ++ d ∷ [] }) b
    its = ap (λ (z : List Active). record { window = b.window; hand = b.hand; numbers = b.numbers; calls = z }) (ap (λ (z : List Active). z ++ d ∷ []) (sym same.0) ∙ sym j)

    go : Yields p readies n a r q d (stored b) x its_move x → (z : Next) → x ≡ z → Reaches p readies n b r x
    go k z e = reached z e (let P : Next → Type 0 = λ t. Yields p readies n a r q d (stored b) x its_move t in subst P e k)
      where
        by : (z : Next) → ¬ (z ≡ next.Return) → Yields p readies n a r q d (stored b) x its_move z → Reaches p readies n b r z
        by next.Enter o k = (let P : Held → Type 0 = λ t. Heads p readies n t r in subst P its k)
        by (next.Call what words) o k = (let P : Held → Type 0 = λ t. Calling p readies n t r what words in subst P its k)
        by (next.Trap t) o k = k
        by (next.Wild t) o k = k
        by next.Return o k = absurd (o refl)

        reached : (z : Next) → x ≡ z → Yields p readies n a r q d (stored b) x its_move z → Reaches p readies n b r x
        reached z e k = (let P : Next → Type 0 = λ t. Reaches p readies n b r t in subst P (sym e) (by z (λ u. off (e ∙ u)) k))
advanced_so p readies _ _ _ (back a m b e cs c d x i j moved ended win rest) n r q =
    go (moved_so p readies n a r q d (stored m) next.Return its_move) (λ w. advanced_so p readies b e x rest n r w)
  where
    same : (cs ≡ q.calls) × (c ≡ q.top)
    same = snoc_same cs q.calls c q.top (sym i ∙ q.has_calls)

    its_move : Moved p.target p.pkg readies q.top d (stored a) (stored m) next.Return
    its_move = (let P : Active → Type 0 = λ z. Moved p.target p.pkg readies z d (stored a) (stored m) next.Return in subst P same.1 moved)

    done : (y : World) → r ≡ gives b.hand y → y.window ≡ b.window → b.calls ≡ [] → Reaches p readies n e r x
    done y k w calls =
        let z = empty_stays p.target p.pkg readies b e x rest calls in
        let P : Next → Type 0 = λ t. Reaches p readies n e r t in
        let S : Held → Type 0 = λ t. Reaches p readies n t r next.Return in
        subst P (sym z.1) (subst S (sym z.0) (y, k, w))

    go : Returned p readies n a r q d (stored m) next.Return its_move → (Within p readies n b r → Reaches p readies n e r x) → Reaches p readies n e r x
    go k more_of =
        elim (gives_back p readies n r q.f d m b k.world k.left (ap (slice_get p.pkg.funcs) (k.func ∙ q.sits.func) ∙ q.sits.learnt.func) q.frames q.calls q.numbers (k.front ++ q.args) q.stacked k.run (j ∙ same.0) k.numbers (k.base ∙ q.base) (k.window ∙ sym win)
        (let P : List Active → Type 0 = λ z. Ended p.target p.pkg readies (top z) d m b in subst P same.0 ended)) as (λ _. Reaches p readies n e r x) [
          | inl w ↦ more_of w
          | inr w ↦ done k.world w.2 (k.window ∙ sym win) (j ∙ same.0 ∙ w.1)
        ]

-- A call of a function that is ready begins at its entry.
use Rattle.std.proofs.Common.{◌≡◌, ℕ, zero, suc, ◌+◌, ◌-◌, ◌<◌, ◌≤◌, refl, ap, sym, ◌∙◌, subst, arith, inl, inr, List, [], ◌∷◌, length, Option, Some, None, Bool, true, false, cond, not}
use Rattle.std.specs.Prelude.{slice_get, slice_index, replicate, find, position, nat_lt, if◌then◌else◌, ◌==◌}
use Rattle.std.specs.List.{Contains, position_or_len}
use Rattle.std.proofs.Math.Path.{fun_ext}
use Rattle.std.proofs.lemmas.Bool.{ltb-true}
use Rattle.std.proofs.lemmas.Option.{slice_get_within}
use Rattle.bk_ops.specs.declared.family.Family.{Family}
use Rattle.bk_ops.specs.declared.family.Family.TheVariants as op
use Rattle.bk_func.specs.Records.{ValueRecord, BlockRecord, FuncRecord, PackageRecord}
use Rattle.bk_func.specs.Numbers.{Program, numbers, room, result, origin_of}
use Rattle.bk_func.specs.Symbols.{sig_of, sig_of_some, panic_divide, panic_shift}
use Rattle.bk_func.specs.Meaning.{World, stops, trapped, Activation, entered, entry_id, fresh, run, begun, begun_in, number_named}
use Rattle.bk_func.specs.declared.form.FormKind.TheVariants.{Control}
use Rattle.bk_func.specs.Form.{IsFormed}
use Rattle.bk_func.specs.Form.Text.{HasBlock, HasValue, Defines, IsEntry, IsPhi}
use Rattle.bk_func.specs.Form.Walks.{begin, IsDefinedAt}
use Rattle.bk_func.specs.Form.Signatures.{Setting}
use Rattle.bk_func.specs.Form.Parts.{HasArity}
use Rattle.bk_mean.specs.Numbering.{place_in}
use Rattle.bk_mean.specs.Running.{Held, Begun}
use Rattle.bk_mean.specs.Symbols.{callee_of, callee_found}
use Rattle.bk_mean.specs.declared.ready.Ready.{Ready}
use Rattle.bk_mean.specs.declared.ready.ReadyBlock.{ReadyBlock}
use Rattle.bk_mean.specs.declared.symbols.Callee.TheVariants.{Func, PanicDivide, PanicShift}
use Rattle.bk_places.proofs.Elements.{to_in, to_contains}
use Rattle.bk_mean.proofs.Named.{got_in}
use Rattle.bk_mean.proofs.Formed.{Sound, sound}
use Rattle.bk_mean.proofs.Dominance.{entry_reached}
use Rattle.bk_mean.proofs.Roles.{result_args, result_calls, first_argument}
use Rattle.bk_mean.proofs.Edges.{phi_entered}
use Rattle.bk_mean.proofs.Arranged.{values_at}
use Rattle.bk_mean.proofs.Along.{entered_shown}
use Rattle.bk_mean.proofs.Walked.{arrives_first}
use Rattle.bk_mean.proofs.Tables.{IsReady, IsSettled, Knows}
use Rattle.bk_mean.proofs.Knowing.{result_takes}
use Rattle.bk_mean.proofs.Tabled.{table}
use Rattle.bk_mean.proofs.Resuming.{Frame, resume}
use Rattle.bk_mean.proofs.Stacking.{Learnt, Stacked, Heads}
use Rattle.bk_mean.proofs.Moving.{get_there, zip_length}

-- lists of zeros

zeros_index : (n k : ℕ) → slice_index (replicate n 0) k ≡ 0
zeros_index zero k = refl
zeros_index (suc n) zero = refl
zeros_index (suc n) (suc k) = zeros_index n k

zeros_length : (n : ℕ) → length {A = ℕ} (replicate n 0) ≡ n
zeros_length zero = refl
zeros_length (suc n) = ap suc (zeros_length n)

-- the entry

first_block : (bs : List BlockRecord) → ¬ (bs ≡ []) → (b : BlockRecord) × (slice_get bs 0 ≡ Some b) × (entry_id bs ≡ b.id)
first_block [] n = absurd (n refl)
first_block (b ∷ bs) n = (b, refl, refl)

phi_arity : (s : Setting) (f : FuncRecord) (b : BlockRecord) (v : ValueRecord) (g : Family) → HasArity s f b v g → g ≡ op.Phi → length v.args ≡ length b.preds
unfolding HasArity
phi_arity s f b v g h e = (let P : Family → Type 0 = λ z. HasArity s f b v z in subst P e h).0

no_args : (xs : List ℕ) → length xs ≡ 0 → slice_get xs 0 ≡ None
no_args [] e = refl
no_args (x ∷ xs) e = absurd (omega (arith, e))

module _ (s : Setting) (f : FuncRecord) (formed : IsFormed s f) (p : Program) (b : BlockRecord) (entry : IsEntry f b) (a : Activation) (w : World) (m : ℕ → ℕ) (zero_all : (n : ℕ) → m n ≡ 0) where
  h : Sound s f
  h = sound s f formed

  has_b : HasBlock f b
  has_b = to_contains b f.blocks (got_in f.blocks 0 b entry)

  -- what is defined at the entry stands in it
  defined_in : (n : ℕ) → IsDefinedAt f b n → Defines b n
  defined_in n d = go (d [] (begin b entry))
    where
      go : (c : BlockRecord) × Contains (b ∷ []) c × Defines c n → Defines b n
      go (c, i, k) = elim (to_in c (b ∷ []) i) as (λ _. Defines b n) [
        | inl e ↦ (let P : BlockRecord → Type 0 = λ z. Defines z n in subst P (sym e) k)
        | inr j ↦ elim j [ ]
      ]

  pub knows_first : Knows p f b [] m (entered p f b 0 a w).env
  knows_first n known = of_value (defined_in n known.defined)
    where
      no_result : (u : ValueRecord) → HasValue f b u → origin_of u.op.family ≡ result → IsReady b [] u → ⊥
      no_result u i o ready =
          let got = first_argument u 0 (result_args s f b u (h.rows b u i) o).0 in
          let t = (h.memory b u i).call (result_calls u o) (slice_index u.args 0) got in
          ready t.0 (result_takes s f h b t.0 u (i.0, t.1) (i, o, sym t.2))

      of_phi : (u : ValueRecord) → HasValue f b u → u.id ≡ n → IsPhi u → m n ≡ numbers p f (entered p f b 0 a w).env n
      of_phi u i e q =
          let l = phi_arity s f b u u.op.family (h.rows b u i).arity q in
          let k = ap length ((formed.kinds Control b has_b).block.entry entry) in
          let P : ℕ → Type 0 = λ z. m z ≡ numbers p f (entered p f b 0 a w).env z in
          subst P e (zero_all u.id ∙ sym (phi_entered s f h p b u i (entry_reached f b entry) q 0 a w ∙ ap (number_named (numbers p f a.env)) (no_args u.args (l ∙ k))))

      of_value : Defines b n → m n ≡ numbers p f (entered p f b 0 a w).env n
      of_value (u, i, e) = by (known.settled u (has_b, i) e)
        where
          by : IsSettled b [] u → m n ≡ numbers p f (entered p f b 0 a w).env n
          by (inl j) = elim j [ ]
          by (inr (inl q)) = of_phi u (has_b, i) e q
          by (inr (inr q)) = absurd (no_result u (has_b, i) q.0 q.1)

-- a call that begins stands at the entry of its function
pub begun_heads : (p : Program) (readies : List (Option Ready)) (n i k stack : ℕ) (f : FuncRecord) (r : Ready) → Learnt p readies i f r → (frs : List Frame) (a b : Held) → Stacked p readies n frs a.calls a.numbers f →
    Begun i (length r.values.items) stack a b → (w : World) → w.window ≡ a.window → w.left ≡ n → n ≤ k →
    Heads p readies n b (resume p frs (run k p i (fresh a.hand stack) (entry_id f.blocks) 0 w))
begun_heads p readies n i k stack f r learnt frs a b stacked begun w win left fuel = at_entry (first_block f.blocks learnt.formed.blocks)
  where
    values_length : length r.values.items ≡ room f
    values_length = zip_length _ _ r.values.items learnt.values

    at_entry : (c : BlockRecord) × (slice_get f.blocks 0 ≡ Some c) × (entry_id f.blocks ≡ c.id) → Heads p readies n b (resume p frs (run k p i (fresh a.hand stack) (entry_id f.blocks) 0 w))
    at_entry (c, entry, id) = in_course (get_there r.blocks.items 0 (let l = learnt.blocks.length in let q = slice_get_within f.blocks 0 c entry in omega (arith, l, q)))
      where
        in_course : (course : ReadyBlock) × (slice_get r.blocks.items 0 ≡ Some course) → Heads p readies n b (resume p frs (run k p i (fresh a.hand stack) (entry_id f.blocks) 0 w))
        in_course (course, got) = record {
          frames = frs;
          calls = a.calls;
          numbers = a.numbers;
          top = record { func = i; base = length a.numbers; block = 0; next = 0; called_by = 0; stack = stack; words = begun.words };
          front = replicate (length r.values.items + 1) 0;
          args = a.hand;
          k = k;
          i = i;
          f = f;
          b = c;
          place = 0;
          rest = values_at c.values course.order.items;
          act = fresh a.hand stack;
          world = w;
          has_calls = begun.calls;
          has_numbers = begun.numbers;
          base = refl;
          stacked = stacked;
          sits = record {
            ready = r;
            learnt = learnt;
            func = refl;
            block = entry;
            course = course;
            its = got;
            arrives = arrives_first f c entry 0;
            parts = refl;
            at = record {
              target = refl;
              args = refl;
              knows = knows_first learnt.set f learnt.formed p c entry (fresh a.hand stack) w (table f (replicate (length r.values.items + 1) 0)) (λ x. zeros_index (length r.values.items + 1) (place_in f x));
              blank = λ d u j e t. zeros_index (length r.values.items + 1) (place_in f u.id);
              long = zeros_length (length r.values.items + 1) ∙ ap (λ x. x + 1) values_length;
              memory = refl;
              shown = entered_shown p f c 0 (fresh a.hand stack) w;
              window = win ∙ sym begun.window;
              out = sym (fun_ext begun.out);
              back = sym (fun_ext begun.back);
              regs = sym begun.regs;
            };
            stack = refl;
            fuel = (let l = left in omega (arith, l, fuel));
          };
          next = refl;
          run = ap (λ z. resume p frs (run k p i (fresh a.hand stack) z 0 w)) id;
          left = left;
        }

-- a call traps where its frame exceeds the stack
pub begun_traps : (p : Program) (i : ℕ) (f : FuncRecord) (args : List ℕ) (stack k : ℕ) (w : World) → slice_get p.pkg.funcs i ≡ Some f → nat_lt stack (slice_index p.frames i) ≡ true → begun (run k p) p i args stack w ≡ stops (trapped 5) w.window
begun_traps p i f args stack k w e t =
    ap (λ o. begun_in o (run k p) p i args stack w) e
    ∙ ap (λ z. if z then stops (trapped 5) w.window else (run k p i (fresh args (stack - slice_index p.frames i)) (entry_id f.blocks) 0 w)) t

pub begun_enters : (p : Program) (i : ℕ) (f : FuncRecord) (args : List ℕ) (stack k : ℕ) (w : World) → slice_get p.pkg.funcs i ≡ Some f → nat_lt stack (slice_index p.frames i) ≡ false →
    begun (run k p) p i args stack w ≡ (run k p i (fresh args (stack - slice_index p.frames i)) (entry_id f.blocks) 0 w)
begun_enters p i f args stack k w e t =
    ap (λ o. begun_in o (run k p) p i args stack w) e
    ∙ ap (λ z. if z then stops (trapped 5) w.window else (run k p i (fresh args (stack - slice_index p.frames i)) (entry_id f.blocks) 0 w)) t

-- the function that a name calls is the one whose signature it has

found_first : (s : ℕ) (fs : List FuncRecord) (i : ℕ) (f : FuncRecord) → position (λ g. g.name == s) fs ≡ Some i → slice_get fs i ≡ Some f → find (λ g. g.name == s) fs ≡ Some f
found_first s fs i f e g = go fs (first_is fs i e) g
  where
    first_is : (gs : List FuncRecord) (j : ℕ) → position (λ g. g.name == s) gs ≡ Some j → (position_or_len (λ (g : FuncRecord). g.name == s) gs ≡ j) × (position_or_len (λ (g : FuncRecord). g.name == s) gs < length gs)
    first_is gs j e = by (nat_lt (position_or_len (λ (g : FuncRecord). g.name == s) gs) (length gs)) refl e
      where
        by : (t : Bool) → nat_lt (position_or_len (λ (g : FuncRecord). g.name == s) gs) (length gs) ≡ t → cond t (Some (position_or_len (λ (g : FuncRecord). g.name == s) gs)) None ≡ Some j →
            (position_or_len (λ (g : FuncRecord). g.name == s) gs ≡ j) × (position_or_len (λ (g : FuncRecord). g.name == s) gs < length gs)
        by true k e = (cc, ltb-true (position_or_len (λ (g : FuncRecord). g.name == s) gs) (length gs) k)
        by false k e = absurd cc

    go : (gs : List FuncRecord) → (position_or_len (λ (g : FuncRecord). g.name == s) gs ≡ i) × (position_or_len (λ (g : FuncRecord). g.name == s) gs < length gs) → slice_get gs i ≡ Some f → find (λ g. g.name == s) gs ≡ Some f
    go gs (e, l) got = walk gs i e got
      where
        walk : (hs : List FuncRecord) (j : ℕ) → position_or_len (λ (g : FuncRecord). g.name == s) hs ≡ j → slice_get hs j ≡ Some f → find (λ g. g.name == s) hs ≡ Some f
        walk [] j e got = absurd cc
        walk (x ∷ xs) j e got = by (x.name == s) refl e (λ k l. walk xs k l)
          where
            by : (t : Bool) → (x.name == s) ≡ t → cond (not t) (1 + position_or_len (λ (g : FuncRecord). g.name == s) xs) 0 ≡ j →
                ((k : ℕ) → position_or_len (λ (g : FuncRecord). g.name == s) xs ≡ k → slice_get xs k ≡ Some f → find (λ g. g.name == s) xs ≡ Some f) → cond t (Some x) (find (λ g. g.name == s) xs) ≡ Some f
            by true q e rest = (let P : ℕ → Type 0 = λ z. slice_get (x ∷ xs) z ≡ Some f in subst P (sym e) got)
            by false q e rest =
                let z : j ≡ suc (position_or_len (λ (g : FuncRecord). g.name == s) xs) = omega (arith, e) in
                let P : ℕ → Type 0 = λ y. slice_get (x ∷ xs) y ≡ Some f in
                rest (position_or_len (λ (g : FuncRecord). g.name == s) xs) refl (subst P z got)

pub callee_position : (p : PackageRecord) (s i : ℕ) → callee_of p s ≡ Func i → position (λ g. g.name == s) p.funcs ≡ Some i
callee_position p s i e = go (s == panic_divide) (s == panic_shift) (position (λ g. g.name == s) p.funcs) e
  where
    go : (t u : Bool) (o : Option ℕ) → (if t then PanicDivide else (if u then PanicShift else callee_found o)) ≡ Func i → o ≡ Some i
    go true u o e = absurd cc
    go false true o e = absurd cc
    go false false None e = absurd cc
    go false false (Some j) e = cc

pub callee_sig : (p : PackageRecord) (s i : ℕ) (f : FuncRecord) → callee_of p s ≡ Func i → slice_get p.funcs i ≡ Some f → sig_of p s ≡ f.sig
callee_sig p s i f e g = ap sig_of_some (found_first s p.funcs i f (callee_position p s i e) g)

pub callee_there : (p : PackageRecord) (s i : ℕ) → callee_of p s ≡ Func i → i < length p.funcs
callee_there p s i e = go (nat_lt (position_or_len (λ (g : FuncRecord). g.name == s) p.funcs) (length p.funcs)) refl (callee_position p s i e)
  where
    go : (t : Bool) → nat_lt (position_or_len (λ (g : FuncRecord). g.name == s) p.funcs) (length p.funcs) ≡ t → cond t (Some (position_or_len (λ (g : FuncRecord). g.name == s) p.funcs)) None ≡ Some i → i < length p.funcs
    go true k e =
        let l = ltb-true (position_or_len (λ (g : FuncRecord). g.name == s) p.funcs) (length p.funcs) k in
        let q : position_or_len (λ (g : FuncRecord). g.name == s) p.funcs ≡ i = cc in
        omega (arith, l, q)
    go false k e = absurd cc

-- What memory values do, from what their calls say of the window.
use Rattle.std.proofs.Common.{◌≡◌, ℕ, ◌+◌, ◌%◌, ◌^◌, refl, ap, sym, ◌∙◌, List, map, Option, Some, None, Bool, true, false}
use Rattle.std.specs.Prelude.{if◌then◌else◌, ◌==◌, slice_range, slice_index, unwrap_or, ◌-◌, Vec}
use Rattle.std.specs.declared.alloc.Global.{Global}
use Rattle.std.proofs.Math.Path.{fun_ext}
use Rattle.bk_num.specs.Word.{residue}
use Rattle.bk_num.specs.Bytes.{is_within, number, load_in, store_in, written}
use Rattle.bk_num.specs.Memory.{data_base}
use Rattle.bk_ops.specs.Memory.{number_at, with_number, with_zeros, with_move, with_moved, do_overlap}
use Rattle.bk_ops.specs.Types.{word_width}
use Rattle.bk_ops.specs.declared.types.Target.{Target}
use Rattle.bk_func.specs.Records.{ValueRecord}
use Rattle.bk_func.specs.Numbers.{Program, loaded, natural, address_by, load_size, read_at}
use Rattle.bk_func.specs.Effects.{store, zeros, move, out_word, ret_word, ret_words}
use Rattle.bk_func.specs.Meaning.{World, Run, gives, stops, wild, Activation, Calls, put, without_memory, with_window, moved, store_size, stored_of, done_by, fault_by}
use Rattle.bk_mean.specs.Machine.{copy_fault}
use Rattle.bk_mean.specs.declared.step.After.{After}
use Rattle.bk_mean.specs.declared.step.CallWords.{CallWords}
use Rattle.bk_mean.specs.declared.words.Words.{Words}
use Rattle.bk_mean.specs.Seen.{word_in}
use Rattle.bk_mean.specs.Step.{with_words, seeing, after_run}

pub written_on : (o : Option (List ℕ)) (old new : List ℕ) (x : ℕ) (a : Activation) (w : World) → o ≡ Some new → with_window o x a (seeing w old) ≡ gives a (seeing w new)
written_on o old new x a w e = ap (λ z. with_window z x a (seeing w old)) e

pub written_off : (o : Option (List ℕ)) (old new : List ℕ) (x : ℕ) (a : Activation) (w : World) → o ≡ None → new ≡ old → with_window o x a (seeing w old) ≡ stops (wild x) new
written_off o old new x a w e k = ap (λ z. with_window z x a (seeing w old)) e ∙ ap (λ d. stops (wild x) d) (sym k)

-- bytes that are moved

some_moved : (old new : List ℕ) (n to from k : ℕ) (a : Activation) (w : World) (o : Bool) → (if o then None else with_number old n to k) ≡ Some new →
    (if o then stops (wild to) old else with_window (with_number old n to k) to a (seeing w old)) ≡ gives a (seeing w new)
some_moved old new n to from k a w true h = absurd cc
some_moved old new n to from k a w false h = ap (λ z. with_window z to a (seeing w old)) h

pub moved_done : (old new : List ℕ) (n to from : ℕ) (a : Activation) (w : World) → with_move old n to from ≡ Some new → moved (number_at old n from) n to from a (seeing w old) ≡ gives a (seeing w new)
moved_done old new n to from a w d = go (number_at old n from) d
  where
    go : (q : Option ℕ) → with_moved old n to q from ≡ Some new → moved q n to from a (seeing w old) ≡ gives a (seeing w new)
    go None h = absurd cc
    go (Some k) h = some_moved old new n to from k a w (do_overlap n to from) h

fault_from : (old : List ℕ) (n to from : ℕ) (a : Activation) (w : World) → is_within data_base old n from ≡ false → moved (number_at old n from) n to from a (seeing w old) ≡ stops (wild from) old
unfolding load_in
fault_from old n to from a w e =
    ap (λ (b : Bool). moved (if b then Some (number (slice_range old (from - data_base) (from - data_base + n))) else None) n to from a (seeing w old)) e

fault_shared : (old : List ℕ) (n to from : ℕ) (a : Activation) (w : World) → is_within data_base old n from ≡ true → do_overlap n to from ≡ true → moved (number_at old n from) n to from a (seeing w old) ≡ stops (wild to) old
unfolding load_in
fault_shared old n to from a w e o =
    let k = number (slice_range old (from - data_base) (from - data_base + n)) in
    ap (λ (b : Bool). moved (if b then Some k else None) n to from a (seeing w old)) e
    ∙ ap (λ (b : Bool). if b then stops (wild to) old else with_window (with_number old n to k) to a (seeing w old)) o

fault_to : (old : List ℕ) (n to from : ℕ) (a : Activation) (w : World) → is_within data_base old n from ≡ true → is_within data_base old n to ≡ false → moved (number_at old n from) n to from a (seeing w old) ≡ stops (wild to) old
unfolding load_in store_in
fault_to old n to from a w e c =
    let k = number (slice_range old (from - data_base) (from - data_base + n)) in
    ap (λ (b : Bool). moved (if b then Some k else None) n to from a (seeing w old)) e ∙ go k (do_overlap n to from)
  where
    go : (k : ℕ) (o : Bool) → (if o then stops (wild to) old else with_window (with_number old n to k) to a (seeing w old)) ≡ stops (wild to) old
    go k true = refl
    go k false = ap (λ (b : Bool). with_window (if b then Some (written data_base old n to k) else None) to a (seeing w old)) c

pub moved_fault : (old new : List ℕ) (n to from x : ℕ) (a : Activation) (w : World) → copy_fault old n to from ≡ Some x → new ≡ old → moved (number_at old n from) n to from a (seeing w old) ≡ stops (wild x) new
moved_fault old new n to from x a w f k = pick (is_within data_base old n from) refl (is_within data_base old n to) refl (do_overlap n to from) refl f
  where
    halt : ℕ → List ℕ → Run Activation
    halt y d = stops (wild y) d

    told : (y : ℕ) → Some y ≡ Some x → halt y old ≡ halt x new
    told y h = let q : y ≡ x = cc in cc

    pick : (b : Bool) → is_within data_base old n from ≡ b → (c : Bool) → is_within data_base old n to ≡ c → (o : Bool) → do_overlap n to from ≡ o →
        (if b then (if c then (if o then Some to else None) else Some to) else Some from) ≡ Some x → moved (number_at old n from) n to from a (seeing w old) ≡ stops (wild x) new
    pick false e c e2 o e3 h = fault_from old n to from a w e ∙ told from h
    pick true e false e2 o e3 h = fault_to old n to from a w e e2 ∙ told to h
    pick true e true e2 true e3 h = fault_shared old n to from a w e e3 ∙ told to h
    pick true e true e2 false e3 h = absurd cc

-- where a value's count is not 0
pub moved_stops : (old new : List ℕ) (n to from x : ℕ) (a : Activation) (w : World) → (n == 0) ≡ false → copy_fault old n to from ≡ Some x → new ≡ old →
    (if n == 0 then gives a (seeing w old) else moved (number_at old n from) n to from a (seeing w old)) ≡ stops (wild x) new
moved_stops old new n to from x a w z f k =
    ap (λ (b : Bool). if b then gives a (seeing w old) else moved (number_at old n from) n to from a (seeing w old)) z ∙ moved_fault old new n to from x a w f k

-- memory values, at the numbers of their arguments

pub act_store : (p : Program) (m : ℕ → ℕ) (calls : Calls) (v : ValueRecord) (a : Activation) (w : World) (t : Target) (first second : ℕ) (old new : List ℕ) (after : After) → p.target ≡ t →
    first ≡ m (slice_index v.args 0) → second ≡ m (slice_index v.args 1) →
    with_window (with_number old (store_size t v.aux v.op v.op.family) ((first + residue (word_width t) v.int) % 2 ^ word_width t) (stored_of v.aux v.op.family second)) ((first + residue (word_width t) v.int) % 2 ^ word_width t) a (seeing w old)
    ≡ after_run after a (seeing w new) →
    done_by (Some store) calls p m v a (seeing w old) ≡ after_run after a (seeing w new)
act_store p m calls v a w t first second old new after h f s e =
    ap (λ (x : Target). run x (m (slice_index v.args 0)) (m (slice_index v.args 1))) h ∙ ap (λ x. run t x (m (slice_index v.args 1))) (sym f) ∙ ap (λ x. run t first x) (sym s) ∙ e
  where
    run : Target → ℕ → ℕ → Run Activation
    run x f s = with_window (with_number old (store_size x v.aux v.op v.op.family) ((f + residue (word_width x) v.int) % 2 ^ word_width x) (stored_of v.aux v.op.family s)) ((f + residue (word_width x) v.int) % 2 ^ word_width x) a (seeing w old)

pub act_zeros : (p : Program) (m : ℕ → ℕ) (calls : Calls) (v : ValueRecord) (a : Activation) (w : World) (t : Target) (first : ℕ) (old new : List ℕ) (after : After) → p.target ≡ t →
    first ≡ m (slice_index v.args 0) →
    (if natural v.int == 0 then gives a (seeing w old) else with_window (with_zeros old (natural v.int) (first % 2 ^ word_width t)) (first % 2 ^ word_width t) a (seeing w old)) ≡ after_run after a (seeing w new) →
    done_by (Some zeros) calls p m v a (seeing w old) ≡ after_run after a (seeing w new)
act_zeros p m calls v a w t first old new after h f e = ap (λ (x : Target). run x (m (slice_index v.args 0))) h ∙ ap (run t) (sym f) ∙ e
  where
    run : Target → ℕ → Run Activation
    run x f = if natural v.int == 0 then gives a (seeing w old) else with_window (with_zeros old (natural v.int) (f % 2 ^ word_width x)) (f % 2 ^ word_width x) a (seeing w old)

pub act_move : (p : Program) (m : ℕ → ℕ) (calls : Calls) (v : ValueRecord) (a : Activation) (w : World) (t : Target) (first second : ℕ) (old new : List ℕ) (after : After) → p.target ≡ t →
    first ≡ m (slice_index v.args 0) → second ≡ m (slice_index v.args 1) →
    (if natural v.int == 0 then gives a (seeing w old) else moved (number_at old (natural v.int) (second % 2 ^ word_width t)) (natural v.int) (first % 2 ^ word_width t) (second % 2 ^ word_width t) a (seeing w old)) ≡ after_run after a (seeing w new) →
    done_by (Some move) calls p m v a (seeing w old) ≡ after_run after a (seeing w new)
act_move p m calls v a w t first second old new after h f s e =
    ap (λ (x : Target). run x (m (slice_index v.args 0)) (m (slice_index v.args 1))) h ∙ ap (λ x. run t x (m (slice_index v.args 1))) (sym f) ∙ ap (λ x. run t first x) (sym s) ∙ e
  where
    run : Target → ℕ → ℕ → Run Activation
    run x f s = if natural v.int == 0 then gives a (seeing w old) else moved (number_at old (natural v.int) (s % 2 ^ word_width x)) (natural v.int) (f % 2 ^ word_width x) (s % 2 ^ word_width x) a (seeing w old)

pub act_out : (p : Program) (m : ℕ → ℕ) (calls : Calls) (v : ValueRecord) (a : Activation) (w : World) (old new : CallWords) (place first : ℕ) → place ≡ natural v.int → first ≡ m (slice_index v.args 0) →
    ((k : ℕ) → word_in new.out k ≡ put (word_in old.out) place first k) → new.back ≡ old.back → new.regs ≡ old.regs → done_by (Some out_word) calls p m v (with_words a old) w ≡ gives (with_words a new) w
act_out p m calls v a w old new place first h f s b r =
    ap (λ k. gives (record (with_words a old) { out = put (word_in old.out) k (m (slice_index v.args 0)) }) w) (sym h)
    ∙ ap (λ n. gives (record (with_words a old) { out = put (word_in old.out) place n }) w) (sym f)
    ∙ ap (λ (g : ℕ → ℕ). gives (record (with_words a old) { out = g }) w) (sym (fun_ext s))
    ∙ ap (λ (x : Words). gives (record (with_words a old) { out = word_in new.out; back = word_in x }) w) (sym b)
    ∙ ap (λ (x : Vec ℕ Global). gives (record (with_words a new) { regs = x.items }) w) (sym r)

pub act_ret : (p : Program) (m : ℕ → ℕ) (calls : Calls) (v : ValueRecord) (a : Activation) (w : World) (old new : CallWords) (place first : ℕ) → place ≡ natural v.int → first ≡ m (slice_index v.args 0) →
    ((k : ℕ) → word_in new.back k ≡ put (word_in old.back) place first k) → new.out ≡ old.out → new.regs ≡ old.regs → done_by (Some ret_word) calls p m v (with_words a old) w ≡ gives (with_words a new) w
act_ret p m calls v a w old new place first h f s b r =
    ap (λ k. gives (record (with_words a old) { back = put (word_in old.back) k (m (slice_index v.args 0)) }) w) (sym h)
    ∙ ap (λ n. gives (record (with_words a old) { back = put (word_in old.back) place n }) w) (sym f)
    ∙ ap (λ (g : ℕ → ℕ). gives (record (with_words a old) { back = g }) w) (sym (fun_ext s))
    ∙ ap (λ (x : Words). gives (record (with_words a old) { out = word_in x; back = word_in new.back }) w) (sym b)
    ∙ ap (λ (x : Vec ℕ Global). gives (record (with_words a new) { regs = x.items }) w) (sym r)

pub act_ret_words : (p : Program) (m : ℕ → ℕ) (calls : Calls) (v : ValueRecord) (a : Activation) (w : World) (old new : CallWords) → new.regs.items ≡ map m (without_memory v.args) → new.out ≡ old.out → new.back ≡ old.back →
    done_by (Some ret_words) calls p m v (with_words a old) w ≡ gives (with_words a new) w
act_ret_words p m calls v a w old new r s b =
    ap (λ xs. gives (record (with_words a old) { regs = xs }) w) (sym r)
    ∙ ap (λ (x : Words). gives (record (with_words a old) { regs = new.regs.items; out = word_in x }) w) (sym s)
    ∙ ap (λ (x : Words). gives (record (with_words a old) { regs = new.regs.items; out = word_in new.out; back = word_in x }) w) (sym b)

-- loads

load_there : (w : List ℕ) (size a n : ℕ) → load_in data_base w size a ≡ Some n → is_within data_base w size a ≡ true
unfolding load_in
load_there w size a n e = go (is_within data_base w size a) e
  where
    go : (b : Bool) → (if b then Some (number (slice_range w (a - data_base) (a - data_base + size))) else None) ≡ Some n → b ≡ true
    go true h = refl
    go false h = absurd cc

load_not : (w : List ℕ) (size a : ℕ) → load_in data_base w size a ≡ None → is_within data_base w size a ≡ false
unfolding load_in
load_not w size a e = go (is_within data_base w size a) e
  where
    go : (b : Bool) → (if b then Some (number (slice_range w (a - data_base) (a - data_base + size))) else None) ≡ None → b ≡ false
    go true h = absurd cc
    go false h = refl

pub loaded_on : (t : Target) (v : ValueRecord) (w : List ℕ) (m : ℕ → ℕ) (a size n : ℕ) → a ≡ address_by t v m → size ≡ load_size t v.ty v.op v.op.family → load_in data_base w size a ≡ Some n → fault_by loaded t m w v ≡ None
loaded_on t v w m a size n h s e =
    let there : is_within data_base w (load_size t v.ty v.op v.op.family) (address_by t v m) ≡ true =
    ap (λ k. is_within data_base w k (address_by t v m)) (sym s) ∙ ap (is_within data_base w size) (sym h) ∙ load_there w size a n e in
    ap (λ (b : Bool). if b then None else Some (wild (address_by t v m))) there

pub loaded_read : (t : Target) (v : ValueRecord) (w : List ℕ) (m : ℕ → ℕ) (a size n : ℕ) → a ≡ address_by t v m → size ≡ load_size t v.ty v.op v.op.family → load_in data_base w size a ≡ Some n → read_at t v w (address_by t v m) ≡ n
loaded_read t v w m a size n h s e =
    ap (λ k. unwrap_or (load_in data_base w k (address_by t v m)) 0) (sym s) ∙ ap (λ x. unwrap_or (load_in data_base w size x) 0) (sym h) ∙ ap (λ o. unwrap_or o 0) e

pub loaded_off : (t : Target) (v : ValueRecord) (w : List ℕ) (m : ℕ → ℕ) (a size : ℕ) → a ≡ address_by t v m → size ≡ load_size t v.ty v.op v.op.family → load_in data_base w size a ≡ None → fault_by loaded t m w v ≡ Some (wild a)
loaded_off t v w m a size h s e =
    let there : is_within data_base w (load_size t v.ty v.op v.op.family) (address_by t v m) ≡ false =
    ap (λ k. is_within data_base w k (address_by t v m)) (sym s) ∙ ap (is_within data_base w size) (sym h) ∙ load_not w size a e in
    ap (λ (b : Bool). if b then None else Some (wild (address_by t v m))) there ∙ ap (λ x. Some (wild x)) (sym h)

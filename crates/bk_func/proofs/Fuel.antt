-- More steps than blocks may be entered change nothing.
use Rattle.std.proofs.Common.{◌≡◌, ℕ, zero, suc, ◌≤◌, refl, ap, ◌∙◌, arith, List, [], ◌∷◌, map, Option, Some, None, Bool, true, false}
use Rattle.std.specs.Prelude.{slice_get, slice_index, position, nat_lt, ◌-◌, ◌==◌, if◌then◌else◌, ◌%◌, ◌^◌}
use Rattle.bk_ops.specs.Types.{word_width}
use Rattle.bk_ops.specs.Memory.{number_at, with_number, with_zeros, do_overlap}
use Rattle.bk_func.specs.declared.parts.Kind.{Kind}
use Rattle.bk_func.specs.declared.parts.Kind.TheVariants.{Plain, If, First, Ret, Exit}
use Rattle.bk_func.specs.Records.{ValueRecord, BlockRecord, FuncRecord}
use Rattle.bk_func.specs.Edits.{block_of}
use Rattle.bk_func.specs.Symbols.{panic_divide, panic_shift, symbol_of, sig_of}
use Rattle.bk_func.specs.Numbers.{Program, numbers, natural, address_by}
use Rattle.bk_func.specs.Effects.{Effect, store, zeros, move, panic_bounds, call, call_words, out_word, ret_word, ret_words, trap, pass, effect_of, order, chain_from}
use Rattle.bk_func.specs.Meaning.{Outcome, trapped, going, World, Run, gives, stops, bind, Activation, Entries, Calls, with_window, moved, halted, first_fault, checked_at, done_by, done_at, in_state, without_memory, with_given, words_sent, performed, entered, onto, edge_place, is_taken, left_by, fresh, entry_id, begun_in, begun, begun_at, called, in_block, in_func, at_count, one_entry, run}

-- at most n blocks may be entered after it
abbrev pub Falls : {A : Type 0} → Run A → ℕ → Type 0
Falls (gives a w) n = w.left ≤ n
Falls (stops o d) n = Unit {0}

pub bind_falls : {A B : Type 0} (r : Run A) (go : A → World → Run B) (n : ℕ) → Falls r n → ((a : A) (w : World) → w.left ≤ n → Falls (go a w) n) → Falls (bind r go) n
bind_falls (gives a w) go n h k = k a w h
bind_falls (stops o d) go n h k = tt

falls_le : {A : Type 0} (r : Run A) (m n : ℕ) → m ≤ n → Falls r m → Falls r n
falls_le (gives a w) m n l h = omega arith
falls_le (stops o d) m n l h = tt

pub bind_agree : {A B : Type 0} (r q : Run A) (go ho : A → World → Run B) (n : ℕ) → Falls r n → r ≡ q → ((a : A) (w : World) → w.left ≤ n → go a w ≡ ho a w) → bind r go ≡ bind q ho
bind_agree (gives a w) q go ho n h e k = k a w h ∙ ap (λ x. bind x ho) e
bind_agree (stops o d) q go ho n h e k = ap (λ x. bind x ho) e

abbrev pub EntriesFall : Entries → Type 0
EntriesFall enter = (i : ℕ) (a : Activation) (id place : ℕ) (w : World) → Falls (enter i a id place w) w.left

abbrev pub AgreeBelow : ℕ → Entries → Entries → Type 0
AgreeBelow n enter other = (i : ℕ) (a : Activation) (id place : ℕ) (w : World) → w.left ≤ n → enter i a id place w ≡ other i a id place w

abbrev pub CallsFall : Calls → Type 0
CallsFall calls = (s : ℕ) (args : List ℕ) (stack : ℕ) (w : World) → Falls (calls s args stack w) w.left

abbrev CallsAgree : ℕ → Calls → Calls → Type 0
CallsAgree n calls other = (s : ℕ) (args : List ℕ) (stack : ℕ) (w : World) → w.left ≤ n → calls s args stack w ≡ other s args stack w

halted_falls : {A : Type 0} (o : Option Outcome) (a : A) (w : World) → Falls (halted o a w) w.left
halted_falls None a w = omega arith
halted_falls (Some x) a w = tt

window_falls : {A : Type 0} (o : Option (List ℕ)) (x : ℕ) (a : A) (w : World) → Falls (with_window o x a w) w.left
window_falls None x a w = tt
window_falls (Some d) x a w = omega arith

moved_falls : {A : Type 0} (o : Option ℕ) (n to from : ℕ) (a : A) (w : World) → Falls (moved o n to from a w) w.left
moved_falls None n to from a w = tt
moved_falls {A} (Some k) n to from a w = go (do_overlap n to from)
  where
    go : (b : Bool) → Falls {A = A} (if b then stops (Rattle.bk_func.specs.Meaning.wild to) w.window else with_window (with_number w.window n to k) to a w) w.left
    go true = tt
    go false = window_falls (with_number w.window n to k) to a w

if_falls : {A : Type 0} (b : Bool) (r q : Run A) (n : ℕ) → Falls r n → Falls q n → Falls (if b then r else q) n
if_falls true r q n h k = h
if_falls false r q n h k = k

pub done_by_falls : (e : Option Effect) (calls : Calls) → CallsFall calls → (p : Program) (m : ℕ → ℕ) (v : ValueRecord) (a : Activation) (w : World) → Falls (done_by e calls p m v a w) w.left
done_by_falls None calls h p m v a w = omega arith
done_by_falls (Some store) calls h p m v a w = window_falls (with_number w.window (Rattle.bk_func.specs.Meaning.store_size p.target v.aux v.op v.op.family) (address_by p.target v m) (Rattle.bk_func.specs.Meaning.stored_of v.aux v.op.family (m (slice_index v.args 1)))) (address_by p.target v m) a w
done_by_falls (Some zeros) calls h p m v a w =
    if_falls (natural v.int == 0) (gives a w) (with_window (with_zeros w.window (natural v.int) (m (slice_index v.args 0) % 2 ^ word_width p.target)) (m (slice_index v.args 0) % 2 ^ word_width p.target) a w) w.left
    (omega arith) (window_falls (with_zeros w.window (natural v.int) (m (slice_index v.args 0) % 2 ^ word_width p.target)) (m (slice_index v.args 0) % 2 ^ word_width p.target) a w)
done_by_falls (Some move) calls h p m v a w =
    let to = m (slice_index v.args 0) % 2 ^ word_width p.target in
    let from = m (slice_index v.args 1) % 2 ^ word_width p.target in
    if_falls (natural v.int == 0) (gives a w) (moved (number_at w.window (natural v.int) from) (natural v.int) to from a w) w.left
    (omega arith) (moved_falls (number_at w.window (natural v.int) from) (natural v.int) to from a w)
done_by_falls (Some panic_bounds) calls h p m v a w = tt
done_by_falls (Some call) calls h p m v a w =
    bind_falls (calls (symbol_of v.aux) (map m (without_memory v.args)) a.stack w) (λ results w. gives (with_given a v.id results) w) w.left
    (h (symbol_of v.aux) (map m (without_memory v.args)) a.stack w) (λ x u l. l)
done_by_falls (Some call_words) calls h p m v a w =
    let args = words_sent p (sig_of p.pkg (symbol_of v.aux)) (map m (without_memory v.args)) a.out in
    bind_falls (calls (symbol_of v.aux) args a.stack w)
    (λ results w. gives (record (with_given a v.id results) { out = λ k. 0 }) w) w.left
    (h (symbol_of v.aux) args a.stack w) (λ x u l. l)
done_by_falls (Some out_word) calls h p m v a w = omega arith
done_by_falls (Some ret_word) calls h p m v a w = omega arith
done_by_falls (Some ret_words) calls h p m v a w = omega arith
done_by_falls (Some trap) calls h p m v a w = tt
done_by_falls (Some pass) calls h p m v a w = omega arith

done_falls : (calls : Calls) → CallsFall calls → (p : Program) (f : FuncRecord) (v : ValueRecord) (a : Activation) (w : World) → Falls (done_at calls p f v a w) w.left
done_falls calls h p f v a w =
    bind_falls (done_by (effect_of v.op.family v.ty) calls p (numbers p f a.env) v a w) (λ a w. gives (in_state v.id a w) w) w.left
    (done_by_falls (effect_of v.op.family v.ty) calls h p (numbers p f a.env) v a w) (λ x u l. l)

performed_falls : (calls : Calls) → CallsFall calls → (p : Program) (f : FuncRecord) (b : BlockRecord) (vs : List ValueRecord) (a : Activation) (w : World) → Falls (performed calls p f b vs a w) w.left
performed_falls calls h p f b [] a w = halted_falls (first_fault p.target (numbers p f a.env) w.window (order f b a.memory)) a w
performed_falls calls h p f b (v ∷ vs) a w =
    bind_falls (checked_at p f b a w) (λ a w. bind (done_at calls p f v a w) (λ a w. performed calls p f b vs a w)) w.left
    (halted_falls (first_fault p.target (numbers p f a.env) w.window (order f b a.memory)) a w)
    (λ x u l. bind_falls (done_at calls p f v x u) (λ a w. performed calls p f b vs a w) w.left (falls_le (done_at calls p f v x u) u.left w.left l (done_falls calls h p f v x u))
    (λ y t k. falls_le (performed calls p f b vs y t) t.left w.left k (performed_falls calls h p f b vs y t)))

left_falls : (kind : Kind) (enter : Entries) → EntriesFall enter → (p : Program) (i : ℕ) (f : FuncRecord) (b : BlockRecord) (a : Activation) (w : World) → Falls (left_by kind enter p i f b a w) w.left
left_falls Plain enter h p i f b a w = h i a (slice_index b.succs 0) (edge_place b 0 (block_of f (slice_index b.succs 0))) w
left_falls First enter h p i f b a w = h i a (slice_index b.succs 0) (edge_place b 0 (block_of f (slice_index b.succs 0))) w
left_falls If enter h p i f b a w =
    if_falls (is_taken p f a b.control) (onto enter i f b 0 a w) (onto enter i f b 1 a w) w.left
    (h i a (slice_index b.succs 0) (edge_place b 0 (block_of f (slice_index b.succs 0))) w)
    (h i a (slice_index b.succs 1) (edge_place b 1 (block_of f (slice_index b.succs 1))) w)
left_falls Ret enter h p i f b a w = omega arith
left_falls Exit enter h p i f b a w = tt

begun_falls : (enter : Entries) → EntriesFall enter → (p : Program) (i : ℕ) (args : List ℕ) (stack : ℕ) (w : World) → Falls (begun enter p i args stack w) w.left
begun_falls enter h p i args stack w = go (slice_get p.pkg.funcs i)
  where
    go : (o : Option FuncRecord) → Falls (begun_in o enter p i args stack w) w.left
    go None = tt
    go (Some f) =
        let start = fresh args (stack - slice_index p.frames i) in
        if_falls (nat_lt stack (slice_index p.frames i)) (stops (trapped 5) w.window) (enter i start (entry_id f.blocks) 0 w) w.left tt (h i start (entry_id f.blocks) 0 w)

pub called_falls : (enter : Entries) → EntriesFall enter → (p : Program) → CallsFall (called enter p)
called_falls enter h p s args stack w =
    if_falls (s == panic_divide) (stops (trapped 3) w.window) (if s == panic_shift then stops (trapped 4) w.window else begun_at (position (λ g. g.name == s) p.pkg.funcs) (begun enter p) args stack w) w.left tt
    (if_falls (s == panic_shift) (stops (trapped 4) w.window) (begun_at (position (λ g. g.name == s) p.pkg.funcs) (begun enter p) args stack w) w.left tt
    (go (position (λ g. g.name == s) p.pkg.funcs)))
  where
    go : (o : Option ℕ) → Falls (begun_at o (begun enter p) args stack w) w.left
    go None = tt
    go (Some i) = begun_falls enter h p i args stack w

block_falls : (o : Option BlockRecord) (enter : Entries) → EntriesFall enter → (p : Program) (i : ℕ) (f : FuncRecord) (a : Activation) (place : ℕ) (w : World) → Falls (in_block o enter p i f a place w) w.left
block_falls None enter h p i f a place w = tt
block_falls (Some b) enter h p i f a place w =
    let start = entered p f b place a w in
    bind_falls (performed (called enter p) p f b (chain_from f b start.memory) start w) (left_by b.kind enter p i f b) w.left
    (performed_falls (called enter p) (called_falls enter h p) p f b (chain_from f b start.memory) start w)
    (λ x u l. falls_le (left_by b.kind enter p i f b x u) u.left w.left l (left_falls b.kind enter h p i f b x u))

func_falls : (o : Option FuncRecord) (enter : Entries) → EntriesFall enter → (p : Program) (i : ℕ) (a : Activation) (id place : ℕ) (w : World) → Falls (in_func o enter p i a id place w) w.left
func_falls None enter h p i a id place w = tt
func_falls (Some f) enter h p i a id place w = block_falls (block_of f id) enter h p i f a place w

entry_falls : (enter : Entries) → EntriesFall enter → (p : Program) → EntriesFall (one_entry enter p)
entry_falls enter h p i a id place w = go w.left refl
  where
    go : (n : ℕ) → w.left ≡ n → Falls (at_count n w (in_func (slice_get p.pkg.funcs i) enter p i a id place)) w.left
    go zero e = tt
    go (suc n) e = falls_le (in_func (slice_get p.pkg.funcs i) enter p i a id place (record w { left = n })) n w.left (omega arith)
        (func_falls (slice_get p.pkg.funcs i) enter h p i a id place (record w { left = n }))

pub run_falls : (k : ℕ) (p : Program) → EntriesFall (run k p)
unfolding run
run_falls zero p i a id place w = tt
run_falls (suc k) p i a id place w = entry_falls (run k p) (run_falls k p) p i a id place w

-- entries that agree where at most n blocks may be entered

done_by_agree : (e : Option Effect) (n : ℕ) (calls other : Calls) → CallsFall calls → CallsAgree n calls other → (p : Program) (m : ℕ → ℕ) (v : ValueRecord) (a : Activation) (w : World) → w.left ≤ n →
    done_by e calls p m v a w ≡ done_by e other p m v a w
done_by_agree None n calls other h k p m v a w l = refl
done_by_agree (Some store) n calls other h k p m v a w l = refl
done_by_agree (Some zeros) n calls other h k p m v a w l = refl
done_by_agree (Some move) n calls other h k p m v a w l = refl
done_by_agree (Some panic_bounds) n calls other h k p m v a w l = refl
done_by_agree (Some call) n calls other h k p m v a w l =
    ap (λ (r : Run (List ℕ)). bind r (λ results w. gives (with_given a v.id results) w)) (k (symbol_of v.aux) (map m (without_memory v.args)) a.stack w l)
done_by_agree (Some call_words) n calls other h k p m v a w l =
    let args = words_sent p (sig_of p.pkg (symbol_of v.aux)) (map m (without_memory v.args)) a.out in
    ap (λ (r : Run (List ℕ)). bind r (λ results w. gives (record (with_given a v.id results) { out = λ k. 0 }) w)) (k (symbol_of v.aux) args a.stack w l)
done_by_agree (Some out_word) n calls other h k p m v a w l = refl
done_by_agree (Some ret_word) n calls other h k p m v a w l = refl
done_by_agree (Some ret_words) n calls other h k p m v a w l = refl
done_by_agree (Some trap) n calls other h k p m v a w l = refl
done_by_agree (Some pass) n calls other h k p m v a w l = refl

done_agree : (n : ℕ) (calls other : Calls) → CallsFall calls → CallsAgree n calls other → (p : Program) (f : FuncRecord) (v : ValueRecord) (a : Activation) (w : World) → w.left ≤ n →
    done_at calls p f v a w ≡ done_at other p f v a w
done_agree n calls other h k p f v a w l =
    ap (λ (r : Run Activation). bind r (λ a w. gives (in_state v.id a w) w)) (done_by_agree (effect_of v.op.family v.ty) n calls other h k p (numbers p f a.env) v a w l)

performed_agree : (n : ℕ) (calls other : Calls) → CallsFall calls → CallsAgree n calls other → (p : Program) (f : FuncRecord) (b : BlockRecord) (vs : List ValueRecord) (a : Activation) (w : World) → w.left ≤ n →
    performed calls p f b vs a w ≡ performed other p f b vs a w
performed_agree n calls other h k p f b [] a w l = refl
performed_agree n calls other h k p f b (v ∷ vs) a w l =
    bind_agree (checked_at p f b a w) (checked_at p f b a w) (λ a w. bind (done_at calls p f v a w) (λ a w. performed calls p f b vs a w)) (λ a w. bind (done_at other p f v a w) (λ a w. performed other p f b vs a w)) n
    (falls_le (checked_at p f b a w) w.left n l (halted_falls (first_fault p.target (numbers p f a.env) w.window (order f b a.memory)) a w)) refl
    (λ x u j. bind_agree (done_at calls p f v x u) (done_at other p f v x u) (λ a w. performed calls p f b vs a w) (λ a w. performed other p f b vs a w) n
    (falls_le (done_at calls p f v x u) u.left n j (done_falls calls h p f v x u)) (done_agree n calls other h k p f v x u j)
    (λ y t i. performed_agree n calls other h k p f b vs y t i))

left_agree : (kind : Kind) (n : ℕ) (enter other : Entries) → AgreeBelow n enter other → (p : Program) (i : ℕ) (f : FuncRecord) (b : BlockRecord) (a : Activation) (w : World) → w.left ≤ n →
    left_by kind enter p i f b a w ≡ left_by kind other p i f b a w
left_agree Plain n enter other h p i f b a w l = h i a (slice_index b.succs 0) (edge_place b 0 (block_of f (slice_index b.succs 0))) w l
left_agree First n enter other h p i f b a w l = h i a (slice_index b.succs 0) (edge_place b 0 (block_of f (slice_index b.succs 0))) w l
left_agree If n enter other h p i f b a w l =
    let x = h i a (slice_index b.succs 0) (edge_place b 0 (block_of f (slice_index b.succs 0))) w l in
    let y = h i a (slice_index b.succs 1) (edge_place b 1 (block_of f (slice_index b.succs 1))) w l in
    ap (λ (r : Run (List ℕ)). if is_taken p f a b.control then r else onto enter i f b 1 a w) x
    ∙ ap (λ (r : Run (List ℕ)). if is_taken p f a b.control then onto other i f b 0 a w else r) y
left_agree Ret n enter other h p i f b a w l = refl
left_agree Exit n enter other h p i f b a w l = refl

begun_agree : (n : ℕ) (enter other : Entries) → AgreeBelow n enter other → (p : Program) (i : ℕ) (args : List ℕ) (stack : ℕ) (w : World) → w.left ≤ n →
    begun enter p i args stack w ≡ begun other p i args stack w
begun_agree n enter other h p i args stack w l = go (slice_get p.pkg.funcs i)
  where
    go : (o : Option FuncRecord) → begun_in o enter p i args stack w ≡ begun_in o other p i args stack w
    go None = refl
    go (Some f) =
        let start = fresh args (stack - slice_index p.frames i) in
        ap (λ (r : Run (List ℕ)). if nat_lt stack (slice_index p.frames i) then stops (trapped 5) w.window else r) (h i start (entry_id f.blocks) 0 w l)

called_agree : (n : ℕ) (enter other : Entries) → AgreeBelow n enter other → (p : Program) → CallsAgree n (called enter p) (called other p)
called_agree n enter other h p s args stack w l =
    ap (λ (r : Run (List ℕ)). if s == panic_divide then stops (trapped 3) w.window else (if s == panic_shift then stops (trapped 4) w.window else r)) (go (position (λ g. g.name == s) p.pkg.funcs))
  where
    go : (o : Option ℕ) → begun_at o (begun enter p) args stack w ≡ begun_at o (begun other p) args stack w
    go None = refl
    go (Some i) = begun_agree n enter other h p i args stack w l

block_agree : (o : Option BlockRecord) (n : ℕ) (enter other : Entries) → EntriesFall enter → AgreeBelow n enter other → (p : Program) (i : ℕ) (f : FuncRecord) (a : Activation) (place : ℕ) (w : World) → w.left ≤ n →
    in_block o enter p i f a place w ≡ in_block o other p i f a place w
block_agree None n enter other g h p i f a place w l = refl
block_agree (Some b) n enter other g h p i f a place w l =
    let start = entered p f b place a w in
    bind_agree (performed (called enter p) p f b (chain_from f b start.memory) start w) (performed (called other p) p f b (chain_from f b start.memory) start w)
    (left_by b.kind enter p i f b) (left_by b.kind other p i f b) n
    (falls_le (performed (called enter p) p f b (chain_from f b start.memory) start w) w.left n l (performed_falls (called enter p) (called_falls enter g p) p f b (chain_from f b start.memory) start w))
    (performed_agree n (called enter p) (called other p) (called_falls enter g p) (called_agree n enter other h p) p f b (chain_from f b start.memory) start w l)
    (λ x u j. left_agree b.kind n enter other h p i f b x u j)

func_agree : (o : Option FuncRecord) (n : ℕ) (enter other : Entries) → EntriesFall enter → AgreeBelow n enter other → (p : Program) (i : ℕ) (a : Activation) (id place : ℕ) (w : World) → w.left ≤ n →
    in_func o enter p i a id place w ≡ in_func o other p i a id place w
func_agree None n enter other g h p i a id place w l = refl
func_agree (Some f) n enter other g h p i a id place w l = block_agree (block_of f id) n enter other g h p i f a place w l

entry_agree : (n : ℕ) (enter other : Entries) → EntriesFall enter → AgreeBelow n enter other → (p : Program) → AgreeBelow (suc n) (one_entry enter p) (one_entry other p)
entry_agree n enter other g h p i a id place w l = go w.left refl
  where
    go : (k : ℕ) → w.left ≡ k → at_count k w (in_func (slice_get p.pkg.funcs i) enter p i a id place) ≡ at_count k w (in_func (slice_get p.pkg.funcs i) other p i a id place)
    go zero e = refl
    go (suc k) e = func_agree (slice_get p.pkg.funcs i) n enter other g h p i a id place (record w { left = k }) (omega arith)

-- the same for all counts of steps that are enough
pub run_agree : (n k j : ℕ) (p : Program) → n ≤ k → n ≤ j → AgreeBelow n (run k p) (run j p)
unfolding run
run_agree n zero zero p h l i a id place w m = refl
run_agree zero zero (suc j) p h l i a id place w m = let e : w.left ≡ 0 = omega arith in rw e refl
run_agree (suc n) zero (suc j) p h l i a id place w m = absurd (omega arith)
run_agree zero (suc k) zero p h l i a id place w m = let e : w.left ≡ 0 = omega arith in rw e refl
run_agree (suc n) (suc k) zero p h l i a id place w m = absurd (omega arith)
run_agree zero (suc k) (suc j) p h l i a id place w m = let e : w.left ≡ 0 = omega arith in rw e refl
run_agree (suc n) (suc k) (suc j) p h l i a id place w m =
    entry_agree n (run k p) (run j p) (run_falls k p) (run_agree n k j p (omega arith) (omega arith)) p i a id place w m

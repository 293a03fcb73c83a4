-- The steps of the loops over arguments and over values.
use Rattle.std.proofs.Common.{◌≡◌, ℕ, ◌+◌, ◌≤◌, ◌<◌, ap, sym, ◌∙◌, List, ◌∷◌, ◌++◌, length, get_or, drop, append_assoc}
use Rattle.std.proofs.lemmas.List.{append-nil, drop_all, drop_more}
use Rattle.bk_alloc.specs.Registers.{Registers, Uses}
use Rattle.bk_alloc.specs.Tasks.{ActRecord, TaskRecord, acts_of, acts_of_tasks, after_task, after_tasks, fetch, fetched, loads, with_loads}

-- what is left to do, with what was done, comes to the whole
pub record IsOnTheWay (rs whole : Registers) (xs all : List ActRecord) : Type 0 where
  pub registers : rs ≡ whole
  pub acts : xs ≡ all

pub with_step : (n : Uses) (keep xs : List ℕ) (i a : ℕ) (rs : Registers) → drop i xs ≡ a ∷ drop (i + 1) xs → with_loads n keep (drop i xs) rs ≡ with_loads n keep (drop (i + 1) xs) (fetched n keep rs a)
unfolding with_loads
with_step n keep xs i a rs e = ap (λ l. with_loads n keep l rs) e

pub loads_step : (n : Uses) (keep xs : List ℕ) (i a : ℕ) (rs : Registers) (done : List ActRecord) → drop i xs ≡ a ∷ drop (i + 1) xs
    → (done ++ fetch n keep rs a) ++ loads n keep (drop (i + 1) xs) (fetched n keep rs a) ≡ done ++ loads n keep (drop i xs) rs
unfolding loads
loads_step n keep xs i a rs done e = append_assoc done (fetch n keep rs a) (loads n keep (drop (i + 1) xs) (fetched n keep rs a)) ∙ ap (λ l. done ++ loads n keep l rs) (sym e)

pub after_step : (next : ℕ → Uses) (k : ℕ) (ts : List TaskRecord) (i : ℕ) (t : TaskRecord) (rs : Registers) → drop i ts ≡ t ∷ drop (i + 1) ts
    → after_tasks next k (drop i ts) rs ≡ after_tasks next (k + 1) (drop (i + 1) ts) (after_task (next (k + 1)) t rs)
unfolding after_tasks
after_step next k ts i t rs e = ap (λ l. after_tasks next k l rs) e

pub acts_step : (next : ℕ → Uses) (k : ℕ) (ts : List TaskRecord) (i : ℕ) (t : TaskRecord) (rs : Registers) (done : List ActRecord) → drop i ts ≡ t ∷ drop (i + 1) ts
    → (done ++ acts_of (next (k + 1)) t rs) ++ acts_of_tasks next (k + 1) (drop (i + 1) ts) (after_task (next (k + 1)) t rs) ≡ done ++ acts_of_tasks next k (drop i ts) rs
unfolding acts_of_tasks
acts_step next k ts i t rs done e =
    append_assoc done (acts_of (next (k + 1)) t rs) (acts_of_tasks next (k + 1) (drop (i + 1) ts) (after_task (next (k + 1)) t rs)) ∙ ap (λ l. done ++ acts_of_tasks next k l rs) (sym e)

-- one argument more
pub fetch_more : (n : Uses) (keep xs : List ℕ) (i : ℕ) (rs more whole : Registers) (done longer all : List ActRecord) → i < length xs
    → more ≡ fetched n keep rs (get_or xs i 0) → longer ≡ done ++ fetch n keep rs (get_or xs i 0)
    → IsOnTheWay (with_loads n keep (drop i xs) rs) whole (done ++ loads n keep (drop i xs) rs) all
    → IsOnTheWay (with_loads n keep (drop (i + 1) xs) more) whole (longer ++ loads n keep (drop (i + 1) xs) more) all
fetch_more n keep xs i rs more whole done longer all l e f w =
    let d : drop i xs ≡ get_or xs i 0 ∷ drop (i + 1) xs = drop_more xs i 0 l in
    record {
      registers = ap (with_loads n keep (drop (i + 1) xs)) e ∙ (sym (with_step n keep xs i (get_or xs i 0) rs d) ∙ w.registers);
      acts = ap (λ m. longer ++ loads n keep (drop (i + 1) xs) m) e ∙ (ap (λ m. m ++ loads n keep (drop (i + 1) xs) (fetched n keep rs (get_or xs i 0))) f ∙ (loads_step n keep xs i (get_or xs i 0) rs done d ∙ w.acts));
    }

-- one value more
pub turn_more : (next : ℕ → Uses) (k m : ℕ) (ts : List TaskRecord) (i : ℕ) (t : TaskRecord) (rs more whole : Registers) (done longer all : List ActRecord) → i < length ts → m ≡ k + 1 → t ≡ get_or ts i t
    → more ≡ after_task (next m) t rs → longer ≡ done ++ acts_of (next m) t rs
    → IsOnTheWay (after_tasks next k (drop i ts) rs) whole (done ++ acts_of_tasks next k (drop i ts) rs) all
    → IsOnTheWay (after_tasks next m (drop (i + 1) ts) more) whole (longer ++ acts_of_tasks next m (drop (i + 1) ts) more) all
turn_more next k m ts i t rs more whole done longer all l here g e f w =
    let d : drop i ts ≡ t ∷ drop (i + 1) ts = drop_more ts i t l ∙ ap (λ u. u ∷ drop (i + 1) ts) (sym g) in
    record {
      registers = ap (after_tasks next m (drop (i + 1) ts)) e
          ∙ (ap (λ n. after_tasks next n (drop (i + 1) ts) (after_task (next n) t rs)) here ∙ (sym (after_step next k ts i t rs d) ∙ w.registers));
      acts = ap (λ r. longer ++ acts_of_tasks next m (drop (i + 1) ts) r) e
          ∙ (ap (λ x. x ++ acts_of_tasks next m (drop (i + 1) ts) (after_task (next m) t rs)) f
          ∙ (ap (λ n. (done ++ acts_of (next n) t rs) ++ acts_of_tasks next n (drop (i + 1) ts) (after_task (next n) t rs)) here ∙ (acts_step next k ts i t rs done d ∙ w.acts)));
    }

-- nothing is left to do
pub with_end : (n : Uses) (keep xs : List ℕ) (i : ℕ) (rs whole : Registers) → length xs ≤ i → with_loads n keep (drop i xs) rs ≡ whole → rs ≡ whole
unfolding with_loads
with_end n keep xs i rs whole l e = sym (ap (λ m. with_loads n keep m rs) (drop_all i xs l)) ∙ e

pub loads_end : (n : Uses) (keep xs : List ℕ) (i : ℕ) (rs : Registers) (done all : List ActRecord) → length xs ≤ i → done ++ loads n keep (drop i xs) rs ≡ all → done ≡ all
unfolding loads
loads_end n keep xs i rs done all l e = sym (append-nil done) ∙ (sym (ap (λ m. done ++ loads n keep m rs) (drop_all i xs l)) ∙ e)

pub after_end : (next : ℕ → Uses) (k : ℕ) (ts : List TaskRecord) (i : ℕ) (rs whole : Registers) → length ts ≤ i → after_tasks next k (drop i ts) rs ≡ whole → rs ≡ whole
unfolding after_tasks
after_end next k ts i rs whole l e = sym (ap (λ m. after_tasks next k m rs) (drop_all i ts l)) ∙ e

pub acts_end : (next : ℕ → Uses) (k : ℕ) (ts : List TaskRecord) (i : ℕ) (rs : Registers) (done all : List ActRecord) → length ts ≤ i → done ++ acts_of_tasks next k (drop i ts) rs ≡ all → done ≡ all
unfolding acts_of_tasks
acts_end next k ts i rs done all l e = sym (append-nil done) ∙ (sym (ap (λ m. done ++ acts_of_tasks next k m rs) (drop_all i ts l)) ∙ e)

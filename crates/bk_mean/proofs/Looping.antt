-- A run enters one block after the other.
use Rattle.std.proofs.Common.{◌≡◌, ℕ, ◌+◌, ◌-◌, ◌<◌, ◌≤◌, sym, subst, arith, List, Option, Some, None, Bool}
use Rattle.bk_ops.specs.declared.types.Target.{Target}
use Rattle.bk_func.specs.Records.{PackageRecord}
use Rattle.bk_func.specs.Meaning.{Outcome, trapped, wild, going, returned}
use Rattle.bk_mean.specs.Running.{Held, Advanced, Calls, RunsTo, spent, enters, calls, fails, traps, wilds, returns}
use Rattle.bk_mean.specs.declared.ready.Ready.{Ready}
use Rattle.bk_mean.specs.declared.symbols.Callee.{Callee}
use Rattle.bk_mean.specs.declared.turn.Next.{Next}
use Rattle.bk_mean.specs.declared.turn.Next.TheVariants as next

module _ (t u : Target) (p : PackageRecord) (frames : List ℕ) (start bound i : ℕ) (rs : List (Option Ready)) (a b : Held) (x : Next) (same : u ≡ t) (adv : Advanced u p rs a b x) where
  advanced_to : (y : Next) → x ≡ y → Advanced t p rs a b y
  advanced_to y e =
      let P : Target → Type 0 = λ z. Advanced z p rs a b x in
      let S : Next → Type 0 = λ z. Advanced t p rs a b z in
      subst S e (subst P same adv)

  pub loop_enters : i < bound → x ≡ next.Enter → (o : Outcome) (w : List ℕ) → RunsTo t p frames start (bound - (i + 1)) rs b o w → RunsTo t p frames start (bound - i) rs a o w
  loop_enters l e o w rest = enters (bound - i) (bound - (i + 1)) rs a b o w (omega arith) (advanced_to next.Enter e) rest

  pub loop_calls : i < bound → (what : Callee) (on_words : Bool) → x ≡ next.Call what on_words → (v : Target) → v ≡ t → (qs : List (Option Ready)) (c : Held) (trap : Option ℕ) → Calls v p frames start what on_words rs qs b c trap → trap ≡ None →
      (o : Outcome) (w : List ℕ) → RunsTo t p frames start (bound - (i + 1)) qs c o w → RunsTo t p frames start (bound - i) rs a o w
  loop_calls l what on_words e v k qs c trap its n o w rest =
      let P : Target → Type 0 = λ z. Calls z p frames start what on_words rs qs b c trap in
      let S : Option ℕ → Type 0 = λ z. Calls t p frames start what on_words rs qs b c z in
      calls (bound - i) (bound - (i + 1)) rs qs a b c what on_words o w (omega arith) (advanced_to (next.Call what on_words) e) (subst S n (subst P k its)) rest

  pub loop_fails : i < bound → (what : Callee) (on_words : Bool) → x ≡ next.Call what on_words → (v : Target) → v ≡ t → (qs : List (Option Ready)) (c : Held) (trap : Option ℕ) → Calls v p frames start what on_words rs qs b c trap →
      (k : ℕ) → trap ≡ Some k → RunsTo t p frames start (bound - i) rs a (trapped k) c.window
  loop_fails l what on_words e v s qs c trap its k n =
      let P : Target → Type 0 = λ z. Calls z p frames start what on_words rs qs b c trap in
      let S : Option ℕ → Type 0 = λ z. Calls t p frames start what on_words rs qs b c z in
      fails (bound - i) (bound - (i + 1)) rs qs a b c what on_words k (omega arith) (advanced_to (next.Call what on_words) e) (subst S n (subst P s its))

  pub loop_traps : i < bound → (k : ℕ) → x ≡ next.Trap k → RunsTo t p frames start (bound - i) rs a (trapped k) b.window
  loop_traps l k e = traps (bound - i) (bound - (i + 1)) rs a b k (omega arith) (advanced_to (next.Trap k) e)

  pub loop_wilds : i < bound → (k : ℕ) → x ≡ next.Wild k → RunsTo t p frames start (bound - i) rs a (wild k) b.window
  loop_wilds l k e = wilds (bound - i) (bound - (i + 1)) rs a b k (omega arith) (advanced_to (next.Wild k) e)

  pub loop_returns : i < bound → x ≡ next.Return → (hand : List ℕ) → hand ≡ b.hand → RunsTo t p frames start (bound - i) rs a (returned hand) b.window
  loop_returns l e hand k =
      let P : List ℕ → Type 0 = λ z. RunsTo t p frames start (bound - i) rs a (returned z) b.window in
      subst P (sym k) (returns (bound - i) (bound - (i + 1)) rs a b (omega arith) (advanced_to next.Return e))

pub loop_spent : (t : Target) (p : PackageRecord) (frames : List ℕ) (start bound i : ℕ) (rs : List (Option Ready)) (a : Held) → bound ≤ i → RunsTo t p frames start (bound - i) rs a going a.window
loop_spent t p frames start bound i rs a l = (let P : ℕ → Type 0 = λ z. RunsTo t p frames start z rs a going a.window in let e : 0 ≡ bound - i = omega arith in subst P e (spent rs a))

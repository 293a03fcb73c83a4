-- What is known stays known, and items come one by one.
use Rattle.std.proofs.Common.{◌≡◌, ℕ, List, [], ◌∷◌, ◌++◌, get_or, refl, sym, ap, ◌∙◌, subst, Option, Some, None, append_assoc}
use Rattle.std.specs.List.{All, Contains}
use Rattle.std.proofs.lemmas.List.{map-append}
use Rattle.std.proofs.lemmas.List.Elements.{All-push, Contains-append_left}
use Rattle.bk_ops.specs.declared.types.Target.{Target}
use Rattle.bk_func.specs.Records.{PackageRecord}
use Rattle.bk_piece.specs.declared.Handle.{Handle}
use Rattle.bk_piece.specs.declared.Key.{Key}
use Rattle.bk_core.specs.Rule.{Sight}
use Rattle.bk_core.specs.Events.{drew}
use Rattle.bk_share.specs.Passes.{Drew, Learns}
use Rattle.bk_work.specs.declared.items.Done.{Done}
use Rattle.bk_work.specs.declared.items.Done.TheVariants as done
use Rattle.bk_work.specs.declared.rounds.Job.{Job}
use Rattle.bk_work.specs.declared.rounds.Job.TheVariants.{Lower, Emit}
use Rattle.bk_work.specs.Each.{Each, none, more}
use Rattle.bk_work.specs.Rounds.{Entry, Holds, IsDone, IsHandle, IsItem, IsSecond, Item, KnowsOn, claims_of}

-- all that one holds the other holds
abbrev pub Within : Holds → Holds → Type 0
Within P Q = (x : ℕ × ℕ × ℕ) → P x → Q x

pub each_grows : {A B : Type 0} (R S : A → B → Type 0) (xs : List A) (ys : List B) → ((x : A) (y : B) → R x y → S x y) → Each R xs ys → Each S xs ys
each_grows R S _ _ step none = none
each_grows R S _ _ step (more x y xs ys r rest) = more x y xs ys (step x y r) (each_grows R S xs ys step rest)

pub handles_grow : (P Q : Holds) (keys : List Key) (handles : List Handle) → Within P Q → Each (IsHandle P) keys handles → Each (IsHandle Q) keys handles
handles_grow P Q keys handles w = each_grows (IsHandle P) (IsHandle Q) keys handles (λ k h r. (r.0, w (k.area, h.cell, k.key) r.1))

pub second_grows : (pkg : PackageRecord) (t : Target) (P Q : Holds) (e : Entry) (d : Done) → Within P Q → IsSecond pkg t P e d → IsSecond pkg t Q e d
second_grows pkg t P Q e (done.Lowered g keys) w h = h
second_grows pkg t P Q e (done.Ready p) w h = (h.0, h.1, record { handles = h.2.handles; each = handles_grow P Q e.1.items h.2.handles w h.2.each; code = h.2.code })
second_grows pkg t P Q e (done.Refused cause) w h = h

pub done_grows : (pkg : PackageRecord) (t : Target) (job : Job) (P Q : Holds) (f : ℕ) (d : Done) → Within P Q → IsDone pkg t job P f d → IsDone pkg t job Q f d
done_grows pkg t (Lower extra) P Q f d w h = h
done_grows pkg t (Emit places lowered) P Q f d w h = (h.0, h.1, second_grows pkg t P Q h.0 d w h.2)

pub item_grows : (pkg : PackageRecord) (t : Target) (job : Job) (order : List ℕ) (P Q : Holds) (i : Item) → Within P Q → IsItem pkg t job order P i → IsItem pkg t job order Q i
item_grows pkg t job order P Q i w h = record { below = h.below; func = h.func; is = done_grows pkg t job P Q i.1 i.2 w h.is }

pub items_grow : (pkg : PackageRecord) (t : Target) (job : Job) (order : List ℕ) (P Q : Holds) (items : List Item) → Within P Q → All (IsItem pkg t job order P) items → All (IsItem pkg t job order Q) items
items_grow pkg t job order P Q items w all = λ k d lt. item_grows pkg t job order P Q (get_or items k d) w (all k d lt)

-- one more item
pub items_push : (pkg : PackageRecord) (t : Target) (job : Job) (order : List ℕ) (P Q : Holds) (items : List Item) (i : Item) → Within P Q → All (IsItem pkg t job order P) items → IsItem pkg t job order Q i
    → All (IsItem pkg t job order Q) (items ++ i ∷ [])
items_push pkg t job order P Q items i w all is = All-push (IsItem pkg t job order Q) items i (items_grow pkg t job order P Q items w all) is

-- what an intern keeps
pub learns_on : (cells area key : ℕ) (v w : Sight) → Learns cells area key v w → KnowsOn v w
learns_on cells area key v w l = record {
  parts = l.parts;
  numbers = l.numbers;
  known = λ x h. subst (λ (known : List (ℕ × ℕ × ℕ)). Contains known x) (sym l.known) (Contains-append_left v.known l.more x h);
}

pub knows_same : (v : Sight) → KnowsOn v v
knows_same v = record { parts = refl; numbers = refl; known = λ x h. h }

pub knows_on : (u v w : Sight) → KnowsOn u v → KnowsOn v w → KnowsOn u w
knows_on u v w a b = record { parts = b.parts ∙ a.parts; numbers = b.numbers ∙ a.numbers; known = λ x h. b.known x (a.known x h) }

-- a claim leaves what was known
pub claim_knows : (count : ℕ) (v w : Sight) (r : Option ℕ) → Drew count v r w → Within (Contains v.known) (Contains w.known)
claim_knows count v w (Some n) d x h = subst (λ (u : Sight). Contains u.known x) (sym d.1) h
claim_knows count v w None d x h = subst (λ (u : Sight). Contains u.known x) (sym d.2) h

-- the numbers after one more item
pub numbers_push : (v u p q : Sight) (items pushed : List Item) (i : Item) (n : ℕ) → u.numbers ≡ v.numbers ++ claims_of items → p ≡ drew u n → q.numbers ≡ p.numbers → pushed ≡ items ++ i ∷ [] → i.0 ≡ n
    → q.numbers ≡ v.numbers ++ claims_of pushed
numbers_push v u p q items pushed i n before drawn same push claim =
    let claims : claims_of pushed ≡ claims_of items ++ n ∷ [] =
    ap claims_of push ∙ (map-append (λ (j : Item). j.0) items (i ∷ []) ∙ ap (λ (k : ℕ). claims_of items ++ k ∷ []) claim) in
    same
    ∙ (ap (λ (s : Sight). s.numbers) drawn
    ∙ (ap (λ (l : List ℕ). l ++ n ∷ []) before ∙ (append_assoc v.numbers (claims_of items) (n ∷ []) ∙ sym (ap (λ (l : List ℕ). v.numbers ++ l) claims))))

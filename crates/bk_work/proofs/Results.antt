-- What both rounds made of all functions of a package.
use Rattle.std.proofs.Common.{◌≡◌, ◌⊎◌, inl, inr, ⊎_elim, ℕ, zero, suc, ◌+◌, List, [], ◌∷◌, length, map, get_or, refl, sym, ◌∙◌, subst, arith, Option, None, Some}
use Rattle.std.specs.Prelude.{slice_get}
use Rattle.std.specs.List.{All, Contains, filter}
use Rattle.std.proofs.lemmas.List.Elements.{All-contains}
use Rattle.std.proofs.lemmas.Option.{get_or_from_slice_get, slice_get_within}
use Rattle.bk_core.specs.Events.{CoreState, MeetsRule}
use Rattle.bk_dump.specs.ClaimOrder.{IsClaimOrder}
use Rattle.bk_func.specs.Records.{FuncRecord, PackageRecord}
use Rattle.bk_ops.specs.declared.types.Target.{Target}
use Rattle.bk_piece.specs.Pieces.{PieceRecord}
use Rattle.bk_piece.specs.Rising.{Rise, keys_in, rising}
use Rattle.bk_piece.proofs.Rising.{rising_rises}
use Rattle.bk_rule.specs.declared.trees.Rule.{Rule}
use Rattle.bk_work.specs.declared.items.Done.{Done}
use Rattle.bk_work.specs.declared.items.Done.TheVariants as done
use Rattle.bk_work.specs.declared.refusals.Cause.{Cause}
use Rattle.bk_work.specs.declared.refusals.Refusal.{Refusal}
use Rattle.bk_work.specs.declared.rounds.Job.{Job}
use Rattle.bk_work.specs.declared.rounds.Job.TheVariants.{Lower, Emit}
use Rattle.bk_work.specs.Each.{Each}
use Rattle.bk_work.specs.Package.{AreOutcomes, AreRefused, words_of}
use Rattle.bk_work.specs.Placed.{ArePlaced, is_open, refused_by}
use Rattle.bk_work.specs.Refused.{IsRefused}
use Rattle.bk_work.specs.Results.{AreClosed, AreFirstDone, AreSecondDone, IsFirstAt, IsRefusedAt, IsSecondAt}
use Rattle.bk_work.specs.Rounds.{AreLowered, Entry, Holds, IsAt, IsDone, IsEmit, IsEntry, IsEntryAt, IsFirst, IsItem, IsLower, Item, announced_by, announced_for}
use Rattle.bk_work.specs.Rules.{RulesRecord, rules_of}
use Rattle.bk_work.specs.Run.{AreAll, in_words}
use Rattle.bk_work.proofs.Between.{all_lowered, cause_is, firsts_long}
use Rattle.bk_work.proofs.Ended.{Ended, IsEnded, each_at, ended, second_ends}
use Rattle.bk_work.proofs.Gathering.{IsGathered, all_keys, keys_by}
use Rattle.bk_work.proofs.Moving.{IsSerial, moved_codes, same_object, same_size}
use Rattle.bk_work.proofs.Splitting.{critical_keys}

some_is : {X : Type 0} (x y : X) → Some x ≡ Some y → x ≡ y
some_is x y e = cc

-- an item at its place
item_done : (pkg : PackageRecord) (t : Target) (job : Job) (order : List ℕ) (words : List (List ℕ)) (items : List Item) (f : ℕ) (d : Done) → AreAll pkg t job order words items
    → ((i : Item) × Contains items i × (i.1 ≡ f) × (i.2 ≡ d)) → IsDone pkg t job (in_words words) f d
item_done pkg t job order words items f d all i =
    let item : IsItem pkg t job order (in_words words) i.0 = All-contains (IsItem pkg t job order (in_words words)) items i.0 all.each i.1 in
    subst (λ (x : Done). IsDone pkg t job (in_words words) f x) i.3 (subst (λ (n : ℕ). IsDone pkg t job (in_words words) n i.0.2) i.2 item.is)

pub same_round : (p pkg : PackageRecord) (u t : Target) (job : Job) (order : List ℕ) (words : List (List ℕ)) (items : List Item) → p ≡ pkg → u ≡ t → AreAll p u job order words items → AreAll pkg t job order words items
same_round p pkg u t job order words items same alike all =
    subst (λ (q : PackageRecord). AreAll q t job order words items) same (subst (λ (v : Target). AreAll p v job order words items) alike all)

lower_done : (pkg : PackageRecord) (t : Target) (job : Job) (rules : RulesRecord) (P : Holds) (f : ℕ) (d : Done) → IsLower t job rules → IsDone pkg t job P f d → IsFirstAt pkg t rules f d
lower_done pkg t (Lower extra) rules P f d is h = (h.0, h.1, subst (λ (rs : RulesRecord). IsFirst pkg t rs h.0 d) (sym is) h.2)
lower_done pkg t (Emit places lowered) rules P f d is h = absurd is

no_slot : (slots : List (Option Done)) (f : ℕ) (d : Done) → All (λ s. s ≡ None) slots → slice_get slots f ≡ Some (Some d) → ⊥
no_slot slots f d empty at =
    let here : get_or slots f None ≡ Some d = get_or_from_slice_get slots f (Some d) None at in
    let nothing : get_or slots f None ≡ None = empty f None (slice_get_within slots f (Some d) at) in
    absurd cc

pub first_each : (pkg : PackageRecord) (t : Target) (job : Job) (rules : RulesRecord) (order : List ℕ) (words : List (List ℕ)) (items : List Item) (before after : List (Option Done))
    → IsLower t job rules → AreAll pkg t job order words items → All (λ s. s ≡ None) before → ArePlaced items before after
    → (f : ℕ) (d : Done) → slice_get after f ≡ Some (Some d) → IsFirstAt pkg t rules f d
first_each pkg t job rules order words items before after is all empty placed = λ f d at. ⊎_elim
    (λ old. absurd (no_slot before f d empty old))
    (λ i. lower_done pkg t job rules (in_words words) f d is (item_done pkg t job order words items f d all i))
    (placed f d at)

refused_at : (causes : List (Option Cause)) (f : ℕ) (d : Done) → slice_get (refused_by causes) f ≡ Some (Some d) → IsRefusedAt causes f d
refused_at [] f d e = absurd cc
refused_at (None ∷ cs) zero d e = absurd cc
refused_at (Some cause ∷ cs) zero d e = (cause, refl, some_is d (done.Refused cause) (some_is (Some d) (Some (done.Refused cause)) (sym e)))
refused_at (c ∷ cs) (suc f) d e = refused_at cs f d e

emit_done : (pkg : PackageRecord) (t : Target) (job : Job) (places : List ℕ) (es : List Entry) (words : List (List ℕ)) (f : ℕ) (d : Done) → IsEmit job places es → IsDone pkg t job (in_words words) f d
    → IsSecondAt pkg t places es words f d
emit_done pkg t (Lower extra) places es words f d is h = absurd is
emit_done pkg t (Emit ps ls) places es words f d is h = (h.0, subst (λ (l : List Entry). IsAt places l f h.0) is.1 (subst (λ (l : List ℕ). IsAt l ls.now f h.0) is.0 h.1), h.2)

pub second_each : (pkg : PackageRecord) (t : Target) (job : Job) (places : List ℕ) (es : List Entry) (order : List ℕ) (words : List (List ℕ)) (items : List Item) (causes : List (Option Cause)) (after : List (Option Done))
    → IsEmit job places es → AreAll pkg t job order words items → ArePlaced items (refused_by causes) after
    → (f : ℕ) (d : Done) → slice_get after f ≡ Some (Some d) → IsRefusedAt causes f d ⊎ IsSecondAt pkg t places es words f d
second_each pkg t job places es order words items causes after is all placed = λ f d at. ⊎_elim
    (λ old. inl (refused_at causes f d old))
    (λ i. inr (emit_done pkg t job places es words f d is (item_done pkg t job order words items f d all i)))
    (placed f d at)

-- what a round announced is closed
pub closed_for : (job : Job) (places : List ℕ) (es : List Entry) (words : List (List ℕ)) (parts : ℕ) (m : CoreState) → IsEmit job places es → length words ≡ 3 → MeetsRule (announced_for job) parts m → m.areas ≡ words
    → AreClosed (announced_by es) words
closed_for (Lower extra) places es words parts m is areas rule cells = absurd is
closed_for (Emit ps ls) places es words parts m is areas rule cells = record {
  areas = areas;
  parts = parts;
  core = m;
  rule = subst (λ (l : List Entry). MeetsRule (announced_by l) parts m) is.1 rule;
  cells = cells;
}

-- those that are left after the first round
pub lowered_left : (pkg : PackageRecord) (t : Target) (rules : RulesRecord) (order left : List ℕ) (es : List Entry) (causes : List (Option Cause)) → IsClaimOrder pkg.funcs order → left ≡ filter (is_open causes) order
    → AreFirstDone pkg t rules es causes → AreLowered pkg t rules left es
lowered_left pkg t rules order left es causes claims is first =
    subst (λ (l : List ℕ). AreLowered pkg t rules l es) (sym is)
    (all_lowered pkg t rules order first.slots es causes claims first.long first.firsts
    (λ f d at.
    let h = first.each f d at in
    let same : f ≡ 0 + f = omega arith in
    (h.0, subst (λ (n : ℕ). slice_get pkg.funcs n ≡ Some h.0) same h.1, h.2)))

-- the work of both rounds
module _ (pkg : PackageRecord) (t : Target) (rules : RulesRecord) (places : List ℕ) (es : List Entry) (causes : List (Option Cause)) (ps : List PieceRecord) (rs : List Refusal) (words : List (List ℕ))
    (first : AreFirstDone pkg t rules es causes) (second : AreSecondDone pkg t places es causes ps rs words) (entries : Each (IsEntryAt pkg t rules) places es) where
  refused_ends : (f : ℕ) (d : Done) (g : FuncRecord) → slice_get pkg.funcs f ≡ Some g → IsRefusedAt causes f d → IsEnded pkg t rules words places es f g d
  refused_ends f d g there r =
      let h = first.each f (done.Refused r.0) (cause_is first.slots es causes f r.0 first.firsts r.1) in
      let same : h.0 ≡ g = some_is h.0 g (sym h.1 ∙ there) in
      subst (λ (x : Done). IsEnded pkg t rules words places es f g x) (sym r.2) (subst (λ (u : FuncRecord). IsRefused pkg t rules u r.0) same h.2.0)

  coded_ends : (f : ℕ) (d : Done) (g : FuncRecord) → slice_get pkg.funcs f ≡ Some g → IsSecondAt pkg t places es words f d → IsEnded pkg t rules words places es f g d
  coded_ends f d g there s =
      let entry = each_at (IsEntryAt pkg t rules) places es s.1.0 f s.0 entries s.1.1 s.1.2 in
      let same : entry.func ≡ g = some_is entry.func g (sym entry.there ∙ there) in
      second_ends pkg t rules words places es f g s.0 d critical_keys (subst (λ (u : FuncRecord). IsEntry pkg t rules u s.0) same entry.is) s.1 s.2

  pub both_ends : Ended pkg t rules words places es 0 pkg.funcs ps rs
  both_ends = ended pkg t rules words places es 0 pkg.funcs second.slots ps rs second.ends (second.long ∙ (firsts_long first.slots es causes first.firsts ∙ first.long))
      (λ f d g at there.
      let same : f ≡ 0 + f = omega arith in
      subst (λ (n : ℕ). IsEnded pkg t rules words places es n g d) same
      (⊎_elim (λ r. refused_ends f d g there r) (λ s. coded_ends f d g there s) (second.each f d at)))

  gathered_ends : Rise places → rs ≡ [] → IsGathered pkg t rules words places es both_ends.framed ps
  gathered_ends rise none = record {
    rise = rise;
    entries = entries;
    code = both_ends.code;
    all = λ f g there.
        let i = both_ends.all none f g there in
        let same : 0 + f ≡ f = omega arith in
        (i.0, i.1, (i.2.0, subst (λ (n : ℕ). IsAt places es n i.2.0) same i.2.1, i.2.2));
  }

  pub serial : Rise places → rs ≡ [] → IsSerial pkg t rules ps words
  serial rise none =
      let cells = words_of (keys_by both_ends.framed) in
      let closed = second.closed in
      let keys : map keys_in words ≡ map keys_in cells =
      all_keys pkg t rules words places es both_ends.framed ps closed.parts closed.core (gathered_ends rise none) closed.rule closed.cells closed.areas in
      let moved = moved_codes t words cells both_ends.framed ps keys both_ends.code in record {
        pieces = moved.others;
        cells = cells;
        made = record {
          framed = both_ends.framed;
          made = subst (λ (l : List Refusal). AreOutcomes pkg t rules 0 pkg.funcs both_ends.framed l) none both_ends.outcomes;
          cells = refl;
          code = moved.code;
        };
        object = same_object pkg t words cells ps moved.others moved.same keys;
        size = same_size words cells ps moved.others moved.same keys;
      }

-- where none is refused, the object is that of one thread
pub made_serial : (pkg : PackageRecord) (t : Target) (rules : RulesRecord) (order left : List ℕ) (es : List Entry) (causes : List (Option Cause)) (ps : List PieceRecord) (rs : List Refusal) (words : List (List ℕ))
    → IsClaimOrder pkg.funcs order → left ≡ filter (is_open causes) order → AreFirstDone pkg t rules es causes → AreSecondDone pkg t (rising left) es causes ps rs words → rs ≡ [] → IsSerial pkg t rules ps words
made_serial pkg t rules order left es causes ps rs words claims is first second none =
    serial pkg t rules (rising left) es causes ps rs words first second (lowered_left pkg t rules order left es causes claims is first) (rising_rises left) none

-- else all that are refused are told
pub made_refused : (pkg : PackageRecord) (t : Target) (extra : List Rule) (order left : List ℕ) (es : List Entry) (causes : List (Option Cause)) (ps : List PieceRecord) (rs : List Refusal) (words : List (List ℕ))
    → IsClaimOrder pkg.funcs order → left ≡ filter (is_open causes) order → AreFirstDone pkg t (rules_of t extra) es causes → AreSecondDone pkg t (rising left) es causes ps rs words → (rs ≡ [] → ⊥) → AreRefused pkg t extra rs
made_refused pkg t extra order left es causes ps rs words claims is first second some =
    let rules = rules_of t extra in
    let ends = both_ends pkg t rules (rising left) es causes ps rs words first second (lowered_left pkg t rules order left es causes claims is first) in
    record { framed = ends.framed; outcomes = ends.outcomes; some = some }

-- What the states of a block are, by the places that links lead through.
use Rattle.std.proofs.Common.{◌≡◌, ◌∙◌, sym, refl, ap, subst, ℕ, ◌<◌, List, [], ◌∷◌, length, get_or, Option, None, Some}
use Rattle.std.specs.List.{Contains, slice_get}
use Rattle.std.proofs.lemmas.Option.{none-some, same_Some}
use Rattle.bk_form.specs.declared.chains.Links.{Links}
use Rattle.bk_form.specs.declared.chains.Chain.TheVariants.{Empty, Linked, Broken}
use Rattle.bk_places.proofs.Elements.{none_in, contains_at}
use Rattle.bk_places.specs.Search.{IsEdge, Path}
use Rattle.bk_form.specs.Chains.{IsRunOf, IsChainAt, AreLinks, IsClosedBy}
use Rattle.bk_form.proofs.Members.{first_in}
use Rattle.bk_form.proofs.Running.{Closes, after_in, not_again, one_before, run_end, path_run, one_start, run_all, run_whole}

-- the first of a list, and that there is none
nothing_in : (ps : List ℕ) → slice_get ps 0 ≡ None → ps ≡ []
nothing_in [] e = refl
nothing_in (p ∷ ps) e = absurd (none-some p (sym e))

pub first_there : (ps : List ℕ) (p : ℕ) → slice_get ps 0 ≡ Some p → Contains ps p
first_there ps p e = contains_at ps 0 p e

pub none_there : (ps : List ℕ) → ps ≡ [] → (p : ℕ) → Contains ps p → ⊥
none_there ps none p c = none_in p (subst (λ (us : List ℕ). Contains us p) none c)

some_first : (ps : List ℕ) (p : ℕ) → Contains ps p → (q : ℕ) × (slice_get ps 0 ≡ Some q) × Contains ps q
some_first [] p c = absurd (none_in p c)
some_first (q ∷ ps) p c = (q, refl, first_in q ps)

pub is_empty : (bs : List (Option ℕ)) (ps : List ℕ) → slice_get ps 0 ≡ None → IsChainAt bs ps Empty
is_empty bs ps none = nothing_in ps none

pub not_empty : (ps : List ℕ) (p : ℕ) → slice_get ps 0 ≡ Some p → ps ≡ [] → ⊥
not_empty ps p e none = none_there ps none p (first_there ps p e)

-- of a run of the places: where it ends, which leads to all of them
run_first : (l : Links) → AreLinks l → (ps : List ℕ) → ((p : ℕ) → Contains ps p → p < length l.after) → (x : ℕ) (ms : List ℕ) → IsRunOf l.befores.items ps (x ∷ ms)
    → (e : ℕ) × ((p : ℕ) → Contains ps p → get_or l.firsts.items p None ≡ Some e)
run_first l links ps within x ms (run, whole) =
    let (e, ns, same, none, inside, path) = run_end l.befores.items l.after links.after x ms run (λ q c. within q ((whole q).0 c)) in (
      e,
      λ p c.
          let lead : Path l.after (length l.after) e p = path p ((whole p).1 c) in
          let (r, marked) = links.firsts.found e p none lead in
          let (first, other) = links.firsts.from p r marked in
          marked ∙ ap Some (one_start l.befores.items l.after links.after (length l.after) r e p first none other lead),
    )

pub broken_label : (l : Links) → AreLinks l → (ps : List ℕ) → ((p : ℕ) → Contains ps p → p < length l.after) → (p : ℕ) → slice_get ps 0 ≡ Some p → get_or l.firsts.items p None ≡ None
    → IsChainAt l.befores.items ps Broken
broken_label l links ps within p first none = (
  not_empty ps p first,
  λ x ms run. let (e, all) = run_first l links ps within x ms run in none-some e (sym none ∙ all p (first_there ps p first)),
)

pub broken_from : (l : Links) → AreLinks l → (ps : List ℕ) → ((p : ℕ) → Contains ps p → p < length l.after) → (p e : ℕ) → slice_get ps 0 ≡ Some p → get_or l.firsts.items p None ≡ Some e
    → ¬ ((q : ℕ) → Contains ps q → get_or l.firsts.items q None ≡ Some e) → IsChainAt l.befores.items ps Broken
broken_from l links ps within p e first at other = (
  not_empty ps p first,
  λ x ms run.
      let (r, all) = run_first l links ps within x ms run in
      let same : r ≡ e = same_Some r e (sym (all p (first_there ps p first)) ∙ at) in
      other (λ q c. all q c ∙ ap Some same),
)

-- what comes right after a place
edge_of : (l : Links) → AreLinks l → (p q : ℕ) → p < length l.after → get_or l.befores.items q None ≡ Some p → IsEdge l.after p q
edge_of l links p q within e = (links.after.edge p q).1 (within, e)

before_of : (l : Links) → AreLinks l → (p q : ℕ) → IsEdge l.after p q → get_or l.befores.items q None ≡ Some p
before_of l links p q edge = ((links.after.edge p q).0 edge).1

pub broken_line : (l : Links) → AreLinks l → (ps : List ℕ) → IsClosedBy l.befores.items ps → ((p : ℕ) → Contains ps p → p < length l.after) → (p : ℕ) → slice_get ps 0 ≡ Some p
    → ¬ ((p q : ℕ) → Contains ps p → get_or l.befores.items p None ≡ Some q → slice_get (get_or l.after q []) 0 ≡ Some p) → IsChainAt l.befores.items ps Broken
broken_line l links ps closed within p first other = (
  not_empty ps p first,
  λ x ms (run, whole). other (λ q r c e.
      let (y, at, there) = some_first (get_or l.after r []) q (edge_of l links r q (within r (closed.down q r c e)) e) in
      let also : get_or l.befores.items y None ≡ Some r = before_of l links r y there in
      let up : Contains ps y = closed.up y r (closed.down q r c e) also in
      at ∙ ap Some (one_before l.befores.items x ms run y q r ((whole y).1 up) ((whole q).1 c) also e)),
)

pub broken_last : (l : Links) → AreLinks l → (ps : List ℕ) → IsClosedBy l.befores.items ps → ((p : ℕ) → Contains ps p → p < length l.after) → (p : ℕ) → slice_get ps 0 ≡ Some p
    → ((p : ℕ) → Contains ps p → ¬ (get_or l.after p [] ≡ [])) → IsChainAt l.befores.items ps Broken
broken_last l links ps closed within p first none = (
  not_empty ps p first,
  λ x ms (run, whole).
      let inside : Contains ps x = (whole x).0 (first_in x ms) in
      none x inside (empty (get_or l.after x []) (λ y c.
      let before : get_or l.befores.items y None ≡ Some x = before_of l links x y c in
      not_again l.befores.items x ms run (after_in l.befores.items x ms run y x ((whole y).1 (closed.up y x inside before)) before))),
)
  where
    empty : (us : List ℕ) → ((y : ℕ) → Contains us y → ⊥) → us ≡ []
    empty [] h = refl
    empty (u ∷ us) h = absurd (h u (first_in u us))

pub linked : (l : Links) → AreLinks l → (ps : List ℕ) → IsClosedBy l.befores.items ps → ((p : ℕ) → Contains ps p → p < length l.after) → (first last : ℕ)
    → ((q : ℕ) → Contains ps q → get_or l.firsts.items q None ≡ Some first)
    → ((p q : ℕ) → Contains ps p → get_or l.befores.items p None ≡ Some q → slice_get (get_or l.after q []) 0 ≡ Some p) → Contains ps last → get_or l.after last [] ≡ []
    → IsChainAt l.befores.items ps (Linked first last)
linked l links ps closed within first last all line inside end =
    let bs = l.befores.items in
    let (none, path) = links.firsts.from last first (all last inside) in
    let (ms, ns, run, same) = path_run bs l.after links.after (length l.after) first last path none in
    let closes : Closes bs (λ p. Contains ps p) = record { down = closed.down } in (
      ms,
      ns,
      (
        run,
        λ p. (
          λ c. run_all bs (λ p. Contains ps p) closes last ms run inside p c,
          λ c. run_whole bs l.after links.after (λ p. Contains ps p) closes last ms ns first run same inside
              (λ q cq e. none_there (get_or l.after last []) end q (edge_of l links last q (within last inside) e))
              (λ q r s cq cr eq er. same_Some q r (sym (line q s cq eq) ∙ line r s cr er)) (length l.after) p ((links.firsts.from p first (all p c)).1) c,
        ),
      ),
      same,
    )

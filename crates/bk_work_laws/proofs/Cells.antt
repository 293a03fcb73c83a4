-- The cells of a run hold the keys of the functions' code.
use Rattle.std.proofs.Common.{◌≡◌, ◌≢◌, ⊎_elim, ℕ, zero, suc, ◌<◌, List, [], ◌∷◌, length, map, set, get_or, refl, sym, ap, ◌∙◌, subst, arith, length-set}
use Rattle.std.specs.List.{Contains}
use Rattle.std.proofs.Math.ListN.{get_or-map}
use Rattle.std.proofs.lemmas.List.{get_or_default, length-map, same_lists}
use Rattle.std.proofs.lemmas.List.Concat.{flat_map-cons}
use Rattle.std.proofs.lemmas.List.Elements.{Contains-append_cases}
use Rattle.bk_core.specs.declared.events.Event.{Event}
use Rattle.bk_core.specs.declared.events.Event.TheVariants.{Claim, Look, Take, Split, Join}
use Rattle.bk_core.specs.Rule.{cells_of, keys_of}
use Rattle.bk_core.specs.Events.{CoreState, MeetsRule, after, reach, reach_from, start, taken, word_at}
use Rattle.bk_core.proofs.Runs.{runs, starts}
use Rattle.bk_fixup.specs.Keys as fixup
use Rattle.bk_ops.specs.declared.types.Target.{Target}
use Rattle.bk_piece.specs.declared.Handle.{Handle}
use Rattle.bk_piece.specs.declared.Key.{Key}
use Rattle.bk_piece.specs.Filled.{area, key_at}
use Rattle.bk_piece.specs.Pieces.{PieceRecord}
use Rattle.bk_piece.specs.Rising.{full, keys_in}
use Rattle.bk_piece.proofs.Elements.{has_none}
use Rattle.bk_piece.proofs.Full.{from_full, has_full}
use Rattle.bk_piece.proofs.Rising.{from_rising, in_rising, same_rising}
use Rattle.bk_work.specs.Each.{Each, none, more}
use Rattle.bk_work.specs.Framed.{FramedRecord}
use Rattle.bk_work.specs.Package.{IsCode, distinct_in, in_area, words_of}
use Rattle.bk_work.proofs.Announcing.{from_key}
use Rattle.bk_work.proofs.Moving.{has_word}
use Rattle.bk_work_laws.specs.Runs.{IsRun, all_in, announced_by_all, keys_by, reached}

-- events make no areas
areas_after : (m : CoreState) (e : Event) → length (after m e).areas ≡ length m.areas
areas_after m (Claim w) = refl
areas_after m (Look w a c) = refl
areas_after m (Take w a c k) = length-set m.areas a (set (get_or m.areas a []) c (taken (word_at m.areas a c) k))
areas_after m (Split w) = refl
areas_after m (Join from to) = refl

areas_from : (m : CoreState) (es : List Event) → length (reach_from m es).areas ≡ length m.areas
areas_from m [] = refl
areas_from m (e ∷ es) = areas_from (after m e) es ∙ areas_after m e

announced_at : (framed : List FramedRecord) (a : ℕ) → a < 3 → keys_of (announced_by_all framed) a ≡ all_in a framed
announced_at framed zero lt = refl
announced_at framed (suc zero) lt = refl
announced_at framed (suc (suc zero)) lt = refl
announced_at framed (suc (suc (suc a))) lt = absurd (omega (arith, lt))

-- a cell holds 0 or an announced key
in_cell : (announced : List (List ℕ)) (parts a q : ℕ) (m : CoreState) → MeetsRule announced parts m → a < 3 → Contains (area m.areas a) q → q ≢ 0 → Contains (keys_of announced a) q
in_cell announced parts a q m rule lt h ne =
    let size = rule.sizes a lt in
    let l = h.1 in
    let less : h.0 < cells_of announced a = omega (arith, size, l) in
    let word : word_at m.areas a h.0 ≡ q = get_or_default (get_or m.areas a []) h.0 0 q h.1 ∙ h.2 in
    let p = (rule.rule.filled a lt).held h.0 less (λ z. ne (sym word ∙ z)) in
    subst (λ (w : ℕ). Contains (keys_of announced a) w) word p.announced

-- the keys of a function's code stand in cells
of_code : (t : Target) (words : List (List ℕ)) (it : FramedRecord) (piece : PieceRecord) (a q : ℕ) → IsCode t words it piece → q ≢ 0 → Contains (in_area a (fixup.keys_of it.func)) q → Contains (area words a) q
of_code t words it piece a q code ne h =
    let k = from_key a (fixup.keys_of it.func) q h in
    let is : Contains (map (key_at words) code.handles) k.0 = subst (λ (l : List Key). Contains l k.0) (sym code.keys) k.1 in
    let handle = get_or code.handles is.0 nowhere in
    let same : key_at words handle ≡ k.0 =
    sym (get_or-map (key_at words) code.handles is.0 nowhere) ∙ (get_or_default (map (key_at words) code.handles) is.0 (key_at words nowhere) k.0 is.1 ∙ is.2) in
    let at : handle.area ≡ a = ap (λ (x : Key). x.area) same ∙ k.2 in
    let word : get_or (area words handle.area) handle.cell 0 ≡ q = ap (λ (x : Key). x.key) same ∙ k.3 in
    has_word (area words a) handle.cell q ne (subst (λ (n : ℕ). get_or (area words n) handle.cell 0 ≡ q) at word)
  where
    nowhere : Handle
    nowhere = record { area = a; cell = 0 }

of_codes : (t : Target) (words : List (List ℕ)) (its : List FramedRecord) (ps : List PieceRecord) (a q : ℕ) → Each (IsCode t words) its ps → q ≢ 0 → Contains (all_in a its) q → Contains (area words a) q
of_codes t words _ _ a q none ne h = absurd (has_none q h)
of_codes t words _ _ a q (more it p its ps code rest) ne h = ⊎_elim
    (λ own. of_code t words it p a q code ne own)
    (λ others. of_codes t words its ps a q rest ne others)
    (Contains-append_cases (in_area a (fixup.keys_of it.func)) (all_in a its) q (subst (λ (l : List ℕ). Contains l q) (flat_map-cons (in_area a) (fixup.keys_of it.func) (keys_by its)) h))

-- the words of one thread's cells
serial_at : (framed : List FramedRecord) (a : ℕ) → a < 3 → area (words_of (keys_by framed)) a ≡ distinct_in a (keys_by framed)
serial_at framed zero lt = refl
serial_at framed (suc zero) lt = refl
serial_at framed (suc (suc zero)) lt = refl
serial_at framed (suc (suc (suc a))) lt = absurd (omega (arith, lt))

module _ (t : Target) (framed : List FramedRecord) (parts : ℕ) (events : List Event) (pieces : List PieceRecord) (run : IsRun t framed parts events pieces) where
  abbrev words : List (List ℕ)
  words = reached framed parts events

  abbrev cells : List (List ℕ)
  cells = words_of (keys_by framed)

  meets : MeetsRule (announced_by_all framed) parts (reach (announced_by_all framed) parts events)
  meets = runs (announced_by_all framed) parts (start (announced_by_all framed) parts) events (starts (announced_by_all framed) parts run.some refl) run.can

  same_keys : (a : ℕ) → a < 3 → keys_in (area words a) ≡ keys_in (distinct_in a (keys_by framed))
  same_keys a lt =
      same_rising (full (area words a)) (full (distinct_in a (keys_by framed)))
      (λ q h.
      let f = from_full (area words a) q h in
      let announced = in_cell (announced_by_all framed) parts a q (reach (announced_by_all framed) parts events) meets lt f.1 f.0 in
      has_full (distinct_in a (keys_by framed)) q f.0 (in_rising (all_in a framed) q (subst (λ (l : List ℕ). Contains l q) (announced_at framed a lt) announced)))
      (λ q h.
      let f = from_full (distinct_in a (keys_by framed)) q h in
      has_full (area words a) q f.0 (of_codes t words framed pieces a q run.code f.0 (from_rising (all_in a framed) q f.1)))

  -- the cells hold the keys that those of one thread hold
  pub all_keys : map keys_in words ≡ map keys_in cells
  all_keys =
      let count : length words ≡ 3 = areas_from (start (announced_by_all framed) parts) events in
      let long : length (map keys_in words) ≡ 3 = length-map words keys_in ∙ count in
      same_lists (map keys_in words) (map keys_in cells) long
      (λ a d lt.
      let below : a < 3 = omega (arith, long, lt) in
      get_or_default (map keys_in words) a d (keys_in []) lt
      ∙ (get_or-map keys_in words a []
      ∙ (same_keys a below
      ∙ (ap keys_in (sym (serial_at framed a below))
      ∙ (sym (get_or-map keys_in cells a []) ∙ get_or_default (map keys_in cells) a (keys_in []) d below)))))

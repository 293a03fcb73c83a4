-- The lines that open and end a block.
use Rattle.std.specs.Prelude.{ℕ, ◌==◌, if◌then◌else◌, List, [], ◌∷◌, length, Option, Some, None, codes, fold}
use Rattle.std.specs.List.{find}
use Rattle.std.specs.Option.{option_map}
use Rattle.std.specs.Str.{bytes_eq}
use Rattle.bk_func.specs.declared.parts.Kind.{Kind}
use Rattle.bk_func.specs.declared.parts.Kind.TheVariants.{Plain, If, First, Ret, Exit}
use Rattle.bk_func.specs.declared.parts.Likely.{Likely}
use Rattle.bk_func.specs.declared.parts.Likely.TheVariants as likely
use Rattle.bk_dump.specs.Front.{◌>>=◌, unblanked, gap_at, mark_at, is_done, at_end}
use Rattle.bk_dump.specs.Words.{word_at, arrow_at, back_arrow_at, number_at, numbers_at}
use Rattle.bk_dump.specs.Values.{groups_at}
use Rattle.bk_dump.specs.Trees.{LabelTree, EndTree}

-- the blocks behind a `<-`, at least one, to the end of the line
unfoldable pub some_preds_at : List ℕ → Option (List ℕ)
some_preds_at text = do
  a ← back_arrow_at text
  if length (numbers_at (codes "b") a).0 == 0 then None else at_end (numbers_at (codes "b") a).1 (numbers_at (codes "b") a).0

-- the predecessors, where there are any
unfoldable pub preds_at : List ℕ → Option (List ℕ)
preds_at text = if is_done text then Some [] else some_preds_at text

-- `bN:`
unfoldable pub label_at : List ℕ → Option (ℕ × List ℕ)
label_at line = do
  n ← number_at (codes "b") (unblanked line)
  a ← mark_at (codes ":") n.1
  Some (n.0, a)

-- `bN:` or `bN: <- bI bJ`
unfoldable pub block_at : List ℕ → Option LabelTree
block_at line = do
  l ← label_at line
  ps ← preds_at l.1
  Some (record { id = l.0; preds = ps })

-- the word that a block's end begins with
unfoldable pub kind_word : Kind → List ℕ
kind_word Plain = codes "Plain"
kind_word If = codes "If"
kind_word First = codes "First"
kind_word Ret = codes "Ret"
kind_word Exit = codes "Exit"

unfoldable pub kinds : List Kind
kinds = Plain ∷ If ∷ First ∷ Ret ∷ Exit ∷ []

unfoldable pub kind_of : List ℕ → Option Kind
kind_of name = find (λ k. bytes_eq (kind_word k) name) kinds

-- how many blocks stand behind the arrow
abbrev pub succ_count : Kind → ℕ
succ_count Plain = 1
succ_count If = 2
succ_count First = 2
succ_count Ret = 0
succ_count Exit = 0

unfoldable pub value_control_at : List ℕ → Option (Option ℕ × List ℕ)
value_control_at text = do
  a ← gap_at text
  n ← number_at (codes "v") a
  Some (Some n.0, n.1)

-- the control, where the kind has one
unfoldable pub control_at : Kind → List ℕ → Option (Option ℕ × List ℕ)
control_at Plain text = Some (None, text)
control_at If text = value_control_at text
control_at First text = Some (None, text)
control_at Ret text = value_control_at text
control_at Exit text = value_control_at text

-- the blocks behind the arrow, where the kind has some
unfoldable pub succs_at : Kind → List ℕ → Option (List ℕ × List ℕ)
succs_at kind text =
    if succ_count kind == 0 then Some ([], text)
    else (arrow_at text >>= λ a. if length (numbers_at (codes "b") a).0 == succ_count kind then Some (numbers_at (codes "b") a) else None)

-- a group that marks a successor
abbrev pub marked : Likely → List ℕ → Likely
marked l group = if bytes_eq group (codes "likely") then likely.First else if bytes_eq group (codes "unlikely") then likely.Second else l

-- the successor that the last such group marks
abbrev pub mark_of : List (List ℕ) → Likely
mark_of groups = fold marked likely.No groups

-- only an `If` is marked
abbrev pub likely_of : Kind → Likely → Likely
likely_of Plain l = likely.No
likely_of If l = l
likely_of First l = likely.No
likely_of Ret l = likely.No
likely_of Exit l = likely.No

-- the kind, and the text behind its word
unfoldable pub kind_at : List ℕ → Option (Kind × List ℕ)
kind_at line = option_map (λ k. (k, (word_at line).1)) (kind_of (word_at line).0)

-- the kind and the control
unfoldable pub front_at : List ℕ → Option ((Kind × Option ℕ) × List ℕ)
front_at line = do
  k ← kind_at line
  c ← control_at k.0 k.1
  Some ((k.0, c.0), c.1)

-- `KIND vN -> bI bJ (likely)`
unfoldable pub end_at : List ℕ → Option EndTree
end_at line = do
  k ← front_at line
  s ← succs_at k.0.0 k.1
  g ← groups_at s.1
  Some (record { kind = k.0.0; control = k.0.1; succs = s.0; likely = likely_of k.0.0 (mark_of g) })

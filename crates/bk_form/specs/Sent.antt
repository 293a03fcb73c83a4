-- The words that calls take as arguments, by places.
use Rattle.std.specs.Prelude.{◌≡◌, ◌↔◌, ℕ, ◌<◌, Bool, true, false, List, [], length, Option, Some, slice_index_or}
use Rattle.std.specs.List.{Contains, slice_get}
use Rattle.bk_ops.specs.Families.{is_word_call}
use Rattle.bk_ops.specs.declared.family.Family.TheVariants.{OutWord}
use Rattle.bk_func.specs.Records.{ValueRecord, FuncRecord, SigRecord}
use Rattle.bk_func.specs.Form.Text.{IsPhi}
use Rattle.bk_func.specs.Form.Signatures.{Setting, sig_of, ArgumentOf}
use Rattle.bk_func.specs.Form.States.{Names}
use Rattle.bk_func.specs.Form.Parts.{IsArgumentWord}
use Rattle.bk_func.specs.Form.Shapes.{FitsWordOf}
use Rattle.bk_form.specs.declared.sent.Question.{Question}
use Rattle.bk_form.specs.declared.sent.Question.TheVariants.{Misfit, Counted}
use Rattle.bk_places.specs.Search.{Path}
use Rattle.bk_form.specs.Places.{NodeRecord, nodes_of, first_named}

-- what is asked of a word and of the signature of a call that takes it: whether what stands in the word does not fit
-- the signature's word with this number, and whether its arguments have such a word
abbrev pub Passes : Setting → FuncRecord → Question → SigRecord → ValueRecord → Type 0
Passes s f Misfit g v = (u : ValueRecord) × (first_named f v ≡ Some u) × ¬ FitsWordOf s g v.int u.ty
Passes s f Counted g v = IsArgumentWord s g v.int

-- what stands in the word fits the signatures of all calls that take it
abbrev pub FitsCalls : Setting → FuncRecord → ValueRecord → Type 0
FitsCalls s f v = (g : SigRecord) (u : ValueRecord) → ArgumentOf s.pkg f v g → first_named f v ≡ Some u → FitsWordOf s g v.int u.ty

-- the value names the one at the place, which stands in its block
abbrev pub LeadsTo : FuncRecord → NodeRecord → ℕ → Type 0
LeadsTo f m q = (o : NodeRecord) × (slice_get (nodes_of f) q ≡ Some o) × (m.home ≡ o.home) × Names f m.value o.value.id

-- and is neither a phi nor a call of words
abbrev pub StepsTo : FuncRecord → NodeRecord → ℕ → Type 0
StepsTo f m q = ¬ IsPhi m.value × (is_word_call m.value.op.family ≡ false) × LeadsTo f m q

-- the steps back from the first values
pub record AreSteps (f : FuncRecord) (i : ℕ) (es : List (List ℕ)) : Type 0 where
  pub size : length es ≡ i
  pub edge : (p : ℕ) (m : NodeRecord) → p < i → slice_get (nodes_of f) p ≡ Some m → (q : ℕ) → Contains (slice_index_or es p []) q ↔ StepsTo f m q

-- steps lead back to the place from the one that is given, if there is one
abbrev pub IsFoundFrom : List (List ℕ) → Option ℕ → ℕ → Type 0
IsFoundFrom es start p = (j : ℕ) × (start ≡ Some j) × Path es (length es) j p

-- from what a call of the signature at the place k names, steps lead back to p
abbrev pub IsCallFor : Setting → FuncRecord → List (List ℕ) → ℕ → ℕ → SigRecord → Type 0
IsCallFor s f es k p g =
    (c : NodeRecord) × (slice_get (nodes_of f) k ≡ Some c) × (is_word_call c.value.op.family ≡ true) × (sig_of s.pkg c.value.aux ≡ Some g)
    × ((j : ℕ) × LeadsTo f c j × Path es (length es) j p)

-- the answer for each word: yes where it is yes for one of the signatures
pub record AreAnswers (f : FuncRecord) (P : ℕ → SigRecord → Type 0) (Q : SigRecord → ValueRecord → Type 0) (bs : List Bool) : Type 0 where
  pub size : length bs ≡ length (nodes_of f)
  pub each : (p : ℕ) (m : NodeRecord) → slice_get (nodes_of f) p ≡ Some m → (slice_index_or bs p false ≡ true) ↔ ((g : SigRecord) × P p g × Q g m.value)

-- from a call of the signature at one of the first places steps lead back to the place
abbrev pub IsReachedBy : Setting → FuncRecord → List (List ℕ) → ℕ → ℕ → SigRecord → Type 0
IsReachedBy s f es i p g = (k : ℕ) × k < i × IsCallFor s f es k p g

-- the answer for each word and the calls that take it
pub record AnswersCalls (s : Setting) (f : FuncRecord) (q : Question) (bs : List Bool) : Type 0 where
  pub each : (p : ℕ) (m : NodeRecord) → slice_get (nodes_of f) p ≡ Some m → m.value.op.family ≡ OutWord
      → (slice_index_or bs p false ≡ true) ↔ ((g : SigRecord) × ArgumentOf s.pkg f m.value g × Passes s f q g m.value)

-- The object depends on the functions in frames alone.
use Rattle.std.proofs.Common.{◌≡◌, ◌≤◌, ◌∙◌, refl, sym, ap, subst, ℕ, List, ◌∷◌, map}
use Rattle.bk_core.specs.declared.events.Event.{Event}
use Rattle.bk_elf.specs.File.{file_of}
use Rattle.bk_func.specs.Limits.{most_text}
use Rattle.bk_func.specs.Records.{PackageRecord}
use Rattle.bk_link.specs.Linked.{code_size, gathered}
use Rattle.bk_ops.specs.declared.types.Target.{Target}
use Rattle.bk_piece.specs.declared.Key.{Key}
use Rattle.bk_piece.specs.Filled.{area, filled}
use Rattle.bk_piece.specs.Pieces.{PieceOf, PieceRecord}
use Rattle.bk_piece.specs.Rising.{keys_in}
use Rattle.bk_rule.specs.declared.trees.Rule.{Rule}
use Rattle.bk_work.specs.Each.{Each, none, more}
use Rattle.bk_work.specs.Framed.{FramedRecord}
use Rattle.bk_work.specs.Package.{AreFramed, IsCode, IsCompiled, words_of}
use Rattle.bk_work.specs.Rules.{rules_of}
use Rattle.bk_work.proofs.Moving.{moved_codes, same_object, same_size}
use Rattle.bk_work_laws.specs.Runs.{IsRun, keys_by, reached}
use Rattle.bk_work_laws.proofs.Cells.{all_keys}
use Rattle.bk_work_laws.proofs.Unique.{one_code}

-- the code of the same functions, filled with keys
all_code : (t : Target) (w x : List (List ℕ)) (its jts : List FramedRecord) (ps qs : List PieceRecord) → Each (IsCode t w) its ps → Each (IsCode t x) jts qs → its ≡ jts → map (filled w) ps ≡ map (filled x) qs
all_code t w x _ _ _ _ none none e = refl
all_code t w x _ _ _ _ none (more jt q jts qs d others) e = absurd cc
all_code t w x _ _ _ _ (more it p its ps c rest) none e = absurd cc
all_code t w x _ _ _ _ (more it p its ps c rest) (more jt q jts qs d others) e =
    let head : it ≡ jt = cc in
    let tail : its ≡ jts = cc in
    ap (λ (k : PieceOf Key). k ∷ map (filled w) ps) (one_code t w x jt p q (subst (λ (z : FramedRecord). IsCode t w z p) head c) d)
    ∙ ap (λ (ks : List (PieceOf Key)). filled x q ∷ ks) (all_code t w x its jts ps qs rest others tail)

-- where the cells hold the same keys
one_gathered : (pkg : PackageRecord) (t : Target) (w x : List (List ℕ)) (its jts : List FramedRecord) (ps qs : List PieceRecord)
    → map keys_in w ≡ map keys_in x → Each (IsCode t w) its ps → Each (IsCode t x) jts qs → its ≡ jts → file_of (gathered pkg t ps w) ≡ file_of (gathered pkg t qs x)
one_gathered pkg t w x its jts ps qs keys code other e = ap file_of (same_object pkg t w x ps qs (all_code t w x its jts ps qs code other e) keys)

pub gathers : (pkg : PackageRecord) (t : Target) (extra : List Rule) (framed : List FramedRecord) (parts : ℕ) (events : List Event) (pieces : List PieceRecord)
    → AreFramed pkg t (rules_of t extra) framed → IsRun t framed parts events pieces → code_size pieces (keys_in (area (reached framed parts events) 2)) ≤ most_text → IsCompiled pkg t extra (file_of (gathered pkg t pieces (reached framed parts events)))
gathers pkg t extra framed parts events pieces made run within =
    let words = reached framed parts events in
    let cells = words_of (keys_by framed) in
    let keys = all_keys t framed parts events pieces run in
    let moved = moved_codes t words cells framed pieces keys run.code in
    record {
      pieces = moved.others;
      words = cells;
      made = record { framed = framed; made = made; cells = refl; code = moved.code };
      linked = record {
        file = ap file_of (same_object pkg t words cells pieces moved.others moved.same keys);
        within = subst (λ (n : ℕ). n ≤ most_text) (same_size words cells pieces moved.others moved.same keys) within;
      };
    }

pub one_object : (pkg : PackageRecord) (t : Target) (framed : List FramedRecord) (parts others : ℕ) (events steps : List Event) (pieces codes : List PieceRecord)
    → IsRun t framed parts events pieces → IsRun t framed others steps codes → file_of (gathered pkg t pieces (reached framed parts events)) ≡ file_of (gathered pkg t codes (reached framed others steps))
one_object pkg t framed parts others events steps pieces codes run also =
    one_gathered pkg t (reached framed parts events) (reached framed others steps) framed framed pieces codes
    (all_keys t framed parts events pieces run ∙ sym (all_keys t framed others steps codes also)) run.code also.code refl

pub compiles_once : (pkg : PackageRecord) (t : Target) (extra : List Rule) (bytes others : List ℕ) (one : IsCompiled pkg t extra bytes) (two : IsCompiled pkg t extra others) → one.made.framed ≡ two.made.framed → bytes ≡ others
compiles_once pkg t extra bytes others one two same =
    let words : one.words ≡ two.words = one.made.cells ∙ (ap (λ (its : List FramedRecord). words_of (keys_by its)) same ∙ sym two.made.cells) in
    one.linked.file
    ∙ (one_gathered pkg t one.words two.words one.made.framed two.made.framed one.pieces two.pieces (ap (map keys_in) words) one.made.code two.made.code same
    ∙ sym two.linked.file)

pub threads_answer_as_one : (pkg : PackageRecord) (t : Target) (extra : List Rule) (bytes : List ℕ) (one : IsCompiled pkg t extra bytes) (parts : ℕ) (events : List Event) (pieces : List PieceRecord)
    → IsRun t one.made.framed parts events pieces → file_of (gathered pkg t pieces (reached one.made.framed parts events)) ≡ bytes
threads_answer_as_one pkg t extra bytes one parts events pieces run =
    let framed = one.made.framed in
    one_gathered pkg t (reached framed parts events) one.words framed framed pieces one.pieces
    (all_keys t framed parts events pieces run ∙ sym (ap (map keys_in) one.made.cells)) run.code one.made.code refl
    ∙ sym one.linked.file

-- What a text reads as, from what its lines declare and what its references name.
use Rattle.std.proofs.Common.{◌≡◌, ℕ, List, ◌∷◌, length, ap, ◌∙◌, sym, refl, subst, ◌⊎◌, inl, inr, ⊎_elim}
use Rattle.std.specs.Prelude.{Result, Ok, Err, string_bytes}
use Rattle.std.specs.Result.{IsErrAnd}
use Rattle.bk_func.specs.Records.{FuncRecord, VarRecord, PackageRecord}
use Rattle.bk_dump.specs.Trees.{FuncTree}
use Rattle.bk_dump.specs.declared.read.errors.DumpError.{DumpError}
use Rattle.bk_dump.specs.declared.read.errors.DumpError.TheVariants as dump_error
use Rattle.bk_dump.specs.declared.read.errors.ReferenceError.{ReferenceError}
use Rattle.bk_dump.specs.declared.read.errors.ReferenceError.TheVariants as reference_error
use Rattle.bk_dump.specs.declared.read.errors.LineError.{LineError}
use Rattle.bk_dump.specs.declared.read.errors.LineError.TheVariants as line_error
use Rattle.bk_dump.specs.declared.read.errors.Fault.{Fault}
use Rattle.bk_dump.specs.Drafts.{State, at_start, finished}
use Rattle.bk_dump.specs.Resolved.{each, func_of, package_of}
use Rattle.bk_dump.specs.Texts.{Refusal, at_line, undefined, ◌>>=◌, at, lines, read_next, read_lines, references, reading}
use Rattle.bk_dump.specs.Views.{Finds, Refused, Reads, LooksUp, Says, Tells, Names}
use Rattle.bk_dump.proofs.PackageLines.{line_fails, lines_end}
use Rattle.bk_dump.proofs.Packages.{made_package, package_is, package_fails}

-- a line that is not read is refused by its number
pub told : {A : Type 0} (error : LineError) (n : ℕ) (e : DumpError) (read : Result A Fault) → Tells error n e → ((f : Fault) → error ≡ line_error.Fault f → read ≡ Err f) → Refused e (at n read)
told line_error.Memory n e read t h = inl t
told (line_error.Fault f) n e read t h = inr (at_line f n, ap (at n) (h f refl), t)

-- lines of which one is refused
pub line_refused : (text rest line : List ℕ) (n : ℕ) (s : State) (e : DumpError) (all : Result State Refusal) → lines text ≡ line ∷ lines rest → Refused e (read_next n s line) → read_lines n s (lines text) ≡ all → Refused e all
line_refused text rest line n s e all l h g =
    ⊎_elim (λ m. inl m) (λ r. inr (r.0, line_fails text rest line n s r.0 all l r.1 g, r.2)) h

-- lines whose end is refused
pub end_refused : (text : List ℕ) (n : ℕ) (s : State) (e : DumpError) (all : Result State Refusal) → length text ≡ 0 → Refused e (at n (finished s)) → read_lines n s (lines text) ≡ all → Refused e all
end_refused text n s e all l h g =
    ⊎_elim (λ m. inl m) (λ r. inr (r.0, lines_end text n s all l g ∙ r.1, r.2)) h

-- a text whose lines are refused
pub not_read : (e : DumpError) (bytes : List ℕ) → Refused e (read_lines 1 at_start (lines bytes)) → Refused e (reading bytes)
unfolding reading
not_read e bytes h =
    ⊎_elim (λ m. inl m) (λ r. inr (r.0, ap (λ x. x >>= λ s. references (package_of s.names s.funcs s.vars)) r.1, r.2)) h

-- a reference that names nothing
pub not_named : (e : DumpError) (names : List (List ℕ)) (funcs : List FuncTree) (vars : List VarRecord) → (e ≡ dump_error.Memory) ⊎ ((name : List ℕ) × (each (func_of names) funcs ≡ Err name) × Says e (undefined name))
    → (e ≡ dump_error.Memory) ⊎ ((name : List ℕ) × (package_of names funcs vars ≡ Err name) × Says e (undefined name))
not_named e names funcs vars f = ⊎_elim (λ m. inl m) (λ n. inr (n.0, package_fails names funcs vars n.0 n.1, n.2)) f

-- the refusal of a reference that names nothing
pub looks_up : {A : Type 0} (error : ReferenceError) (e : DumpError) (read : Result A (List ℕ)) → Finds {X = A} {Y = A} (λ x. x) (Err error) read → Names error e → (e ≡ dump_error.Memory) ⊎ ((name : List ℕ) × (read ≡ Err name) × Says e (undefined name))
looks_up reference_error.Memory e read f n = inl n
looks_up (reference_error.Undefined name) e read f n = inr (string_bytes name, f, subst (λ d. Says d (undefined (string_bytes name))) (sym n) refl)

-- the package of what is declared
abbrev pub renamed : PackageRecord → List (List ℕ) → PackageRecord
renamed p ns = record p { names = ns }

pub is_read : (names texts : List (List ℕ)) (funcs : List FuncTree) (vars : List VarRecord) (fs : List FuncRecord) → each (func_of names) funcs ≡ Ok fs → texts ≡ names → package_of names funcs vars ≡ Ok (record { names = texts; funcs = fs; vars = vars })
is_read names texts funcs vars fs g n = package_is names funcs vars fs g ∙ ap (λ ns. Ok (renamed (made_package names vars fs) ns)) (sym n)

-- a text whose lines are read
as_text : (r : Result PackageRecord DumpError) (bytes : List ℕ) (s : State) → read_lines 1 at_start (lines bytes) ≡ Ok s → LooksUp {X = PackageRecord} {Y = PackageRecord} (λ p. p) r (package_of s.names s.funcs s.vars) → Reads {X = PackageRecord} {Y = PackageRecord} (λ p. p) r (reading bytes)
unfolding reading
as_text (Ok p) bytes s h f = ap (λ x. x >>= λ s. references (package_of s.names s.funcs s.vars)) h ∙ ap references f
as_text (Err e) bytes s h f = ⊎_elim (λ m. inl m) (λ n. inr (undefined n.0, ap (λ x. x >>= λ s. references (package_of s.names s.funcs s.vars)) h ∙ ap references n.1, n.2)) f

pub text_read : (r : Result PackageRecord DumpError) (bytes : List ℕ) (s : State) (names : List (List ℕ)) (funcs : List FuncTree) (vars : List VarRecord) → read_lines 1 at_start (lines bytes) ≡ Ok s → names ≡ s.names → funcs ≡ s.funcs → vars ≡ s.vars
    → LooksUp {X = PackageRecord} {Y = PackageRecord} (λ p. p) r (package_of names funcs vars) → Reads {X = PackageRecord} {Y = PackageRecord} (λ p. p) r (reading bytes)
text_read r bytes s names funcs vars h n f v l =
    let all : package_of names funcs vars ≡ package_of s.names s.funcs s.vars = ap (λ x. package_of x funcs vars) n ∙ ap (λ x. package_of s.names x vars) f ∙ ap (package_of s.names s.funcs) v in
    as_text r bytes s h (subst (LooksUp {X = PackageRecord} {Y = PackageRecord} (λ p. p) r) all l)

-- calls that an inner call's error ends

pub reads_failed : {X Y : Type 0} (view : X → Y) (r : Result X DumpError) (e : DumpError) (read : Result Y Refusal) → IsErrAnd r (λ f. f ≡ e) → Refused e read → Reads view r read
reads_failed view (Ok x) e read h f = absurd h
reads_failed view (Err d) e read h f = subst (λ d. Refused d read) (sym h) f

pub looks_failed : {X Y : Type 0} (view : X → Y) (r : Result X DumpError) (e : DumpError) (read : Result Y (List ℕ)) → IsErrAnd r (λ f. f ≡ e) → (e ≡ dump_error.Memory) ⊎ ((name : List ℕ) × (read ≡ Err name) × Says e (undefined name)) → LooksUp view r read
looks_failed view (Ok x) e read h f = absurd h
looks_failed view (Err d) e read h f = subst (λ d. (d ≡ dump_error.Memory) ⊎ ((name : List ℕ) × (read ≡ Err name) × Says d (undefined name))) (sym h) f

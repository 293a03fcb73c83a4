-- What is printed of a package that a text reads as reads as the package again.
use Rattle.std.proofs.Common.{◌≡◌, ℕ, List, [], ap, ◌∙◌, sym, refl, subst, arith}
use Rattle.std.specs.Prelude.{Ok}
use Rattle.std.specs.List.{AllZip}
use Rattle.std.proofs.lemmas.List.Elements.{recursion_from_All}
use Rattle.bk_func.specs.Records.{PackageRecord}
use Rattle.bk_dump.specs.Drafts.{State, at_start}
use Rattle.bk_dump.specs.Print.{text_of}
use Rattle.bk_dump_laws.specs.Printed.{declarations_in, declarations_of, FitsText}
use Rattle.bk_dump.specs.Resolved.{func_of, package_of}
use Rattle.bk_dump.specs.Texts.{lines, reading}
use Rattle.bk_dump_laws.specs.Declarations.{Declaration, lines_of_all, names_of_all, funcs_from, vars_from}
use Rattle.bk_dump.proofs.Packages.{package_is}
use Rattle.bk_dump_laws.proofs.Expecting.{kept}
use Rattle.bk_dump_laws.proofs.Running.{Declared, text_declares, reads_declared}
use Rattle.bk_dump_laws.proofs.Naming.{IsShort, package_made, each_is, named, declared_short}
use Rattle.bk_dump_laws.proofs.Following.{run_follows, same_start}
use Rattle.bk_dump_laws.proofs.Leaving.{Left, run_leaves}
use Rattle.bk_dump_laws.proofs.Reprinting.{Reprinted, reprints, all_given}
use Rattle.bk_dump_laws.proofs.WrittenTexts.{written}

-- the package's declarations beside those that are printed
redeclared : (text : List ℕ) (p : PackageRecord) → (d : Declared text p) → Reprinted p.names 0 d.all p.funcs (declarations_of p)
redeclared text p d =
    let made = package_made d.last.names d.last.funcs d.last.vars p d.found in
    let names : p.names ≡ names_of_all d.all = made.names ∙ d.names in
    let n = named text p d in
    let zip = each_is (func_of d.last.names) d.last.funcs p.funcs made.funcs in
    let found : AllZip (λ f g. func_of p.names f ≡ Ok g) (funcs_from 0 d.all) p.funcs =
    subst (λ fs. AllZip (λ f g. func_of p.names f ≡ Ok g) fs p.funcs) d.funcs (subst (λ ns. AllZip (λ f g. func_of ns f ≡ Ok g) d.last.funcs p.funcs) (sym made.names) zip) in
    let all = reprints p.names [] 0 d.all p.funcs names refl (omega (arith, n.few_funcs, n.few_vars, n.counted)) d.spelled.whole (recursion_from_All IsShort (funcs_from 0 d.all) (declared_short text p d))
    (all_given 0 (kept (lines text)) d.all d.spelled.lines) found in
    subst (λ vs. Reprinted p.names 0 d.all p.funcs (declarations_in p.names p.funcs vs)) (sym (made.vars ∙ d.vars)) all

-- what is declared in the end is the package
repackaged : (p : PackageRecord) (ds es : List Declaration) (t : State) → p.names ≡ names_of_all ds → p.vars ≡ vars_from 0 ds → Reprinted p.names 0 ds p.funcs es → Left es t → package_of t.names t.funcs t.vars ≡ Ok p
repackaged p ds es t names vars r l =
    let ns : t.names ≡ p.names = l.names ∙ r.named ∙ sym names in
    let vs : t.vars ≡ p.vars = l.vars ∙ r.vars ∙ sym vars in
    ap (λ xs. package_of xs t.funcs t.vars) ns
    ∙ ap (λ xs. package_of p.names xs t.vars) l.funcs
    ∙ ap (package_of p.names (funcs_from 0 es)) vs
    ∙ package_is p.names (funcs_from 0 es) p.vars p.funcs r.funcs

pub printed_reads : (text : List ℕ) (p : PackageRecord) → reading text ≡ Ok p → FitsText p → reading (text_of p) ≡ Ok p
printed_reads text p h fits =
    let d = text_declares text p h in
    let made = package_made d.last.names d.last.funcs d.last.vars p d.found in
    let r = redeclared text p d in
    let again = run_follows at_start at_start d.last (lines_of_all d.all) (lines_of_all (declarations_of p)) same_start r.lines d.goes in
    let left = run_leaves again.0 (declarations_of p) r.whole again.1 in
    reads_declared (text_of p) (declarations_of p) again.0 p (written p fits) again.1 (repackaged p d.all (declarations_of p) again.0 (made.names ∙ d.names) (made.vars ∙ d.vars) r left)

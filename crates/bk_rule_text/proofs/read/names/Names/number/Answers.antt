use Rattle.std.proofs.Common.{◌∙◌, sym, ap, map}
use Rattle.std.specs.Prelude.{not, if◌then◌else◌, ◌++◌, ◌∷◌, []}
use Rattle.std.specs.List.{list_any, position_or_len}
use Rattle.std.specs.Str.{bytes_eq}
use Rattle.bk_rule_text.proofs.Keys.{first_map, inserted, if_number}
use Rattle.bk_rule_text.proofs.read.names.Names.number.Goals as goal

pub returns : goal.returns
returns c =
    let name = c.args.name.now in
    if_number c.number_at.result c.in_ok-place.place (position_or_len (bytes_eq name) c.args.self.now) _ _
    (c.in_ok-place.ensures.index ∙ sym (first_map (λ n. n.now) (λ y. not (bytes_eq name y)) c.self.inside.names.keys) ∙ ap (position_or_len (bytes_eq name)) c.self.view_is)
    (ap (map (λ n. n.now)) c.in_ok-place.ensures.keys ∙ inserted (λ n. n.now) (bytes_eq name) c.self.inside.names.keys c.args.name ∙ ap (λ ns. if list_any (bytes_eq name) ns then ns else ns ++ name ∷ []) c.self.view_is)
    c.number_at.ensures

use Rattle.std.proofs.Common.{◌∙◌, sym, ap}
use Rattle.std.specs.List.{position}
use Rattle.std.specs.Str.{bytes_eq}
use Rattle.bk_rule_text.proofs.Keys.{position_map}
use Rattle.bk_rule_text.proofs.read.names.Names.place_of.Goals as goal

pub returns : goal.returns
returns c =
    let name = c.args.name.now in
    c.get_index_of.ensures.index ∙ sym (position_map (λ n. n.now) (bytes_eq name) c.self.inside.names.keys) ∙ ap (position (bytes_eq name)) c.self.view_is

use Rattle.std.proofs.Common.{◌≡◌, ℕ, ◌≤◌, subst, suc-le-suc, rules}
use Rattle.models.specs.Kinds.{figures_at}
use Rattle.models.specs.Meaning.{max_delay}
use Rattle.models.proofs.MadeArrays.{each_place}
use Rattle.models.proofs.interpolation.tabulate.Goals as goal

pub returns : goal.returns
returns c =
    let ps = c.args.points.now in
    let each = each_place (λ s (y : ℕ × ℕ). (y ≡ figures_at ps s) × (y.0 ≤ max_delay)) c.from_fn.ensures.items (λ i y f' k. search rules) (0, 0) in
    record {
      figures = λ s l. (each s (suc-le-suc l)).0;
      bound = λ s l. subst (λ (y : ℕ × ℕ). y.0 ≤ max_delay) (each s (suc-le-suc l)).0 (each s (suc-le-suc l)).1;
    }

-- The points that a curve stands for. Assumes nothing.
use Rattle.std.specs.Prelude.{List, map}
use Rattle.models.specs.declared.point.Point.{Point}
use Rattle.models.specs.declared.curve.Curve.{Curve}

abbrev pub points_of : Curve → List Point
points_of c = c.points.items

abbrev pub kinds_of : List Curve → List (List Point)
kinds_of curves = map points_of curves

-- The numbers of a presentation, and their bounds.
--
--   Shape    m relations, n generators and the corner c
--   shape    three numbers as such
--   Bounded  the bounds that every presentation keeps
use Rattle.std.specs.Prelude.{ℕ, ◌≤◌}

pub record Shape : Type 0 where
  pub m : ℕ
  pub n : ℕ
  pub c : ℕ

abbrev pub shape : ℕ → ℕ → ℕ → Shape
shape m n c = record { m = m; n = n; c = c }

pub record Bounded (s : Shape) : Type 0 where
  pub relations : s.m ≤ 32
  pub some_generator : 1 ≤ s.n
  pub generators : s.n ≤ 32
  pub by_relations : s.c ≤ s.m
  pub by_generators : s.c ≤ s.n

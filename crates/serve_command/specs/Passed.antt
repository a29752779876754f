-- What is passed on of serve_work: what stands outside, and how serving ends.
pub use Rattle.serve_work.specs.Serving.{SomeRose}
pub use Rattle.serve_work.specs.declared.outside.Outside.{Outside}
pub use Rattle.serve_work.specs.declared.serving.Served.{Served}
pub use Rattle.serve_work.specs.declared.serving.Served.TheVariants

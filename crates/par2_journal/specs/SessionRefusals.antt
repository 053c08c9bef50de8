pub use Rattle.par2_journal.specs.Commands.{MayRefuse}

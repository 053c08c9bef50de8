pub use Rattle.par2_journal.specs.Commands.{opened_of, session_before, way_left}

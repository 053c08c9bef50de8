use Rattle.par2_laws.proofs.Common.{◌≡◌, ◌∙◌, refl, sym, subst, false, Repair, after, fits_of, HoldsRepaired, after_repair, candidates}
use Rattle.par2_laws.proofs.Reading.{read_of}
use Rattle.par2_spec.proofs.RepairLaws.{asides_free, fits_all, repaired_holds}
use Rattle.par2_laws.proofs.answers.repair_leaves_each_file.Goals as goal

pub returns : goal.returns
unfolding after
returns c = λ folder left base extras is few set reads.
    let searched = candidates folder set extras in
    let read = read_of folder base extras set reads in
    let same : after folder (Repair base extras false) ≡ after_repair folder set searched = rw reads refl in
    let fits = fits_of folder base set extras read.0 read.1 (few set read.0) in
    subst (HoldsRepaired folder set searched) (sym (is.left ∙ same)) (repaired_holds folder set searched (fits_all folder set searched fits) (asides_free folder set fits.few))

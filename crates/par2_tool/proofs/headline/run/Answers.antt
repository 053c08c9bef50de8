use Rattle.par2_tool.proofs.Names.{◌≡◌, ◌≢◌, ◌⊎◌, ◌<◌, inl, ℕ, List, Some, sym, ap, subst, ◌∙◌, map, arith, Action, Repair, Undo, AskFor, TakesEffect, AskForRepair, Folder, CreateArgs, Fault, status_of_fault, may_refuse, string_bytes, false≢true, true, HasFiles, KeepsFiles, FollowsCreate, IsRefused, Leaves, accepted_with_zero, cut_of, effect_of, leaves_of, repair_refused, repaired, stopped_effect, verify_makes_none, own_status, shown_status, reported_of, leaves_first, leaves_older}
use Rattle.par2_tool.proofs.headline.run.Goals.{After-run_words}
use Rattle.par2_tool.proofs.headline.run.Goals as goal

-- the status of the reported result, or that of a failed writer
status_of_run : (g : _) (c : After-run_words g) → (c.run_words.result ≡ own_status c.run_words.ensures.reported.run_result) ⊎ (c.run_words.result ≡ 6)
status_of_run g c =
    shown_status c.run_words.ensures.reported.run_result g.O.Write.contents c.args.out.now c.run_words.new.out g.E.Write.contents c.args.err.now c.run_words.new.err c.run_words.result c.run_words.ensures.reported.shown

-- what it leaves, if its words ask for this action
left_so : (g : _) (c : After-run_words g) (action : Action) → g.S.Store.honest c.args.store.now → AskFor (map string_bytes c.args.words.now) action
    → Leaves (map string_bytes c.args.words.now) action (g.S.Store.contents c.args.store.now) (g.S.Store.contents c.run_words.new.store) c.run_words.ensures.reported.run_result
left_so g c action honest asks =
    leaves_of g.S.Store (map string_bytes c.args.words.now) action c.args.store.now c.run_words.new.store asks c.run_words.ensures.reported.run_result c.run_words.ensures.reported.reported honest

-- a repair that ends with a status below 6 other than 0 and 3 is refused
refused_repair : (g : _) (c : After-run_words g) (folder : Folder) (base : List ℕ) (extras : List (List ℕ)) → g.S.Store.honest c.args.store.now
    → (asks : AskForRepair (map string_bytes c.args.words.now) (g.S.Store.contents c.args.store.now) folder base extras) → (n : ℕ) → c.run_words.result ≡ n → n ≢ 0 → n ≢ 3 → n < 6
    → IsRefused folder (g.S.Store.contents c.args.store.now) (g.S.Store.contents c.run_words.new.store) (Repair base extras asks.purge) n
refused_repair g c folder base extras honest asks n is zero three low =
    let words = map string_bytes c.args.words.now in
    let old = g.S.Store.contents c.args.store.now in
    let new = g.S.Store.contents c.run_words.new.store in
    subst (IsRefused folder old new (Repair base extras asks.purge)) is
    (repair_refused c.stores_open_in_one_way.ensures words old new folder base extras asks c.run_words.ensures.reported.run_result c.run_words.result (status_of_run g c) (left_so g c _ honest asks.requested)
    (λ e. zero (sym is ∙ e)) (λ e. three (sym is ∙ e)) (omega (arith, is, low)))

pub returns-clause-files : goal.returns-clause-files
returns-clause-files g c honest = record {
  restored = λ folder base extras originals s asks original zero.
      let is = repaired c.stores_open_in_one_way.ensures (map string_bytes c.args.words.now) (g.S.Store.contents c.args.store.now) (g.S.Store.contents c.run_words.new.store)
      folder base extras asks c.run_words.ensures.reported.run_result c.run_words.result (status_of_run g c) (left_so g c _ honest asks.requested) zero in
      subst (HasFiles originals) (sym is.left) (c.accepted_repair_leaves_the_files.ensures folder base extras asks.purge originals s original is.accepted);
  right = λ folder base extras originals s asks original five.
      let is = refused_repair g c folder base extras honest asks 5 five (λ e. omega (arith, e)) (λ e. omega (arith, e)) (omega arith) in
      c.repair_never_fails.ensures folder base extras asks.purge originals s original (is.refused ∙ ap Some ((reported_of is.fault).wrong is.reported));
  undetermined = λ folder base extras originals s asks original two.
      let is = refused_repair g c folder base extras honest asks 2 two (λ e. omega (arith, e)) (λ e. omega (arith, e)) (omega arith) in
      let few = (reported_of is.fault).few_left is.reported in
      c.refused_repair_leaves_a_choice.ensures folder base extras asks.purge originals s few.0 few.1 original (is.refused ∙ ap Some few.2);
  unchanged = λ folder base extras asks two.
      let is = refused_repair g c folder base extras honest asks 2 two (λ e. omega (arith, e)) (λ e. omega (arith, e)) (omega arith) in
      (is.files, is.left);
}

-- a repair after a create is refused for few causes
few_causes : (g : _) (c : After-run_words g) (before damaged : Folder) (a : CreateArgs) (base : List ℕ) (extras : List (List ℕ)) → g.S.Store.honest c.args.store.now
    → (asks : AskForRepair (map string_bytes c.args.words.now) (g.S.Store.contents c.args.store.now) damaged base extras) → FollowsCreate before damaged a base extras
    → (n : ℕ) → c.run_words.result ≡ n → n ≢ 0 → n ≢ 3 → n < 6 → (fault : Fault) × (status_of_fault fault ≡ n) × (may_refuse fault ≡ true)
few_causes g c before damaged a base extras honest asks follows n is zero three low =
    let by = refused_repair g c damaged base extras honest asks n is zero three low in
    (by.fault, by.reported, c.repair_of_created_files_is_refused_for_few_causes.ensures before damaged a base extras asks.purge by.fault follows by.refused)

pub returns-clause-inputs : goal.returns-clause-inputs
returns-clause-inputs g c honest = record {
  restored = λ before damaged a base extras asks follows zero.
      let is = repaired c.stores_open_in_one_way.ensures (map string_bytes c.args.words.now) (g.S.Store.contents c.args.store.now) (g.S.Store.contents c.run_words.new.store)
      damaged base extras asks c.run_words.ensures.reported.run_result c.run_words.result (status_of_run g c) (left_so g c _ honest asks.requested) zero in
      subst (KeepsFiles a.inputs before) (sym is.left) (c.repair_gives_the_created_files_back.ensures before damaged a base extras asks.purge follows is.accepted);
  right = λ before damaged a base extras asks follows. (
    λ four.
        let few = few_causes g c before damaged a base extras honest asks follows 4 four (λ e. omega (arith, e)) (λ e. omega (arith, e)) (omega arith) in
        false≢true (sym ((reported_of few.0).unread few.1) ∙ few.2),
    λ five.
        let few = few_causes g c before damaged a base extras honest asks follows 5 five (λ e. omega (arith, e)) (λ e. omega (arith, e)) (omega arith) in
        false≢true (ap may_refuse (sym ((reported_of few.0).wrong few.1)) ∙ few.2),
  );
  undetermined = λ before damaged a base extras asks follows two.
      let is = refused_repair g c damaged base extras honest asks 2 two (λ e. omega (arith, e)) (λ e. omega (arith, e)) (omega arith) in
      let few = (reported_of is.fault).few_left is.reported in
      c.created_files_not_repairable_have_a_choice.ensures before damaged a base extras asks.purge few.0 few.1 follows (is.refused ∙ ap Some few.2);
}

-- with status 0 it takes effect
effect_with_zero : (g : _) (c : After-run_words g) (action : Action) → g.S.Store.honest c.args.store.now → AskFor (map string_bytes c.args.words.now) action → c.run_words.result ≡ 0
    → TakesEffect action (g.S.Store.contents c.args.store.now) (g.S.Store.contents c.run_words.new.store)
effect_with_zero g c action honest requested zero =
    inl (accepted_with_zero (map string_bytes c.args.words.now) action _ _ c.run_words.ensures.reported.run_result c.run_words.result (status_of_run g c) (left_so g c action honest requested) zero)

pub returns-clause-undo : goal.returns-clause-undo
returns-clause-undo g c honest =
    let laws = c.runs_keep_one_history.ensures in
    record {
      undone = λ started requested opens zero.
          let effect = effect_with_zero g c Undo honest requested zero in
          leaves_older laws c.stores_open_in_one_way.ensures _ _ started opens effect (laws.settled _ _ Undo effect);
      back = λ folder requested from zero.
          let effect = effect_with_zero g c Undo honest requested zero in
          leaves_first c.stores_open_in_one_way.ensures c.undone_runs_lead_back.ensures folder _ _ from effect (laws.settled _ _ Undo effect);
    }

pub returns-clause-action : goal.returns-clause-action
returns-clause-action g c honest =
    let old = g.S.Store.contents c.args.store.now in
    record {
      done = λ action requested zero.
          let effect = effect_with_zero g c action honest requested zero in
          (effect, c.runs_keep_one_history.ensures.settled _ _ action effect);
      effect = λ action requested apart. effect_of (map string_bytes c.args.words.now) action old (g.S.Store.contents c.run_words.new.store) c.run_words.ensures.reported.run_result (left_so g c action honest requested) apart;
      cut = λ action durable requested apart left may. stopped_effect old left action apart (cut_of g.S.Store (map string_bytes c.args.words.now) action c.args.store.now c.run_words.new.store requested c.run_words.ensures.reported.run_result c.run_words.ensures.reported.reported honest durable left may);
      unwritten = λ base extras requested none.
          verify_makes_none g.S.Store (map string_bytes c.args.words.now) c.args.store.now c.run_words.new.store base extras none requested c.run_words.ensures.reported.run_result honest c.run_words.ensures.reported.reported;
    }

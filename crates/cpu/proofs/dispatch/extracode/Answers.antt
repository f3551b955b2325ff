use Rattle.std.proofs.Common.{true, false, refl, ◌∙◌}
use Rattle.cpu.specs.declared.instruction.Instruction.TheVariants.{Tc}
use Rattle.cpu.specs.Codes.{code_of, rows_serving, extracode_rows}
use Rattle.cpu.specs.declared.dispatch.TheConstants.{EXTRACODES}
use Rattle.cpu.proofs.RowLaws.{one_row}
use Rattle.cpu.proofs.EntryLaws.{entry}
use Rattle.cpu.proofs.dispatch.extracode.Goals as goal

pub returns : goal.returns
unfolding code_of rows_serving extracode_rows
returns c =
    c.entry.ensures Tc ∙ entry (λ _. false) EXTRACODES extracode_rows c.args.word (
      (λ _. refl, tt),
      (
        (λ _. refl, tt),
        (
          (λ _. refl, tt),
          (
            (λ _. refl, tt),
            (
              (λ _. refl, tt),
              (
                (λ _. refl, tt),
                (
                  (λ _. refl, tt),
                  (
                    (λ _. refl, tt),
                    (
                      (λ _. refl, (λ _. refl, tt)),
                      (
                        (λ _. refl, (λ _. refl, (λ _. refl, (λ _. refl, (λ _. refl, (λ _. refl, tt)))))),
                        (
                          (λ _. refl, (λ _. refl, tt)),
                          (
                            (λ _. refl, (λ _. refl, tt)),
                            (
                              (λ _. refl, (λ _. refl, tt)),
                              (
                                (λ _. refl, (λ _. refl, tt)),
                                (
                                  (λ _. refl, (λ _. refl, (λ _. refl, (λ _. refl, (λ _. refl, (λ _. refl, (λ _. refl, (λ _. refl, tt)))))))),
                                  (
                                    (λ _. refl, (λ _. refl, (λ _. refl, (λ _. refl, (λ _. refl, (λ _. refl, (λ _. refl, (λ _. refl, tt)))))))),
                                    (
                                      (λ _. refl, (λ _. refl, (λ _. refl, (λ _. refl, (λ _. refl, (λ _. refl, (λ _. refl, (λ _. refl, tt)))))))),
                                      (
                                        (λ _. refl, (λ _. refl, tt)),
                                        (
                                          (λ _. refl, (λ _. refl, (λ _. refl, (λ _. refl, (λ _. refl, (λ _. refl, tt)))))),
                                          ((λ _. refl, (λ _. refl, (λ _. refl, (λ _. refl, (λ _. refl, (λ _. refl, (λ _. refl, (λ _. refl, tt)))))))), tt),
                                        ),
                                      ),
                                    ),
                                  ),
                                ),
                              ),
                            ),
                          ),
                        ),
                      ),
                    ),
                  ),
                ),
              ),
            ),
          ),
        ),
      ),
    )
    refl (one_row true c.args.word c.requires) Tc

-- The cases beside the worked examples, by computation. Assumes nothing.
use Rattle.std.proofs.Common.{refl}
use Rattle.model.specs.Rows.{AllHold}
use Rattle.model.specs.Cases.{cases, surprises, Replayed}

by_case : AllHold cases
by_case = (
  (refl, tt),
  (
    (refl, tt),
    (
      (refl, tt),
      (
        (refl, tt),
        (
          (refl, tt),
          (
            (refl, tt),
            (
              (refl, tt),
              (
                (refl, tt),
                (
                  (refl, tt),
                  (
                    (refl, tt),
                    (
                      (refl, tt),
                      (
                        (refl, tt),
                        (
                          (refl, tt),
                          (
                            (refl, tt),
                            (
                              (refl, tt),
                              (
                                (refl, tt),
                                (
                                  (refl, (refl, tt)),
                                  (
                                    (refl, (refl, tt)),
                                    (
                                      (refl, tt),
                                      (
                                        (refl, tt),
                                        (
                                          (refl, tt),
                                          (
                                            (refl, tt),
                                            (
                                              (refl, tt),
                                              (
                                                (refl, tt),
                                                (
                                                  (refl, (refl, tt)),
                                                  (
                                                    (refl, (refl, tt)),
                                                    (
                                                      (refl, tt),
                                                      (
                                                        (refl, tt),
                                                        (
                                                          (refl, tt),
                                                          (
                                                            (refl, tt),
                                                            (
                                                              (refl, tt),
                                                              (
                                                                (refl, tt),
                                                                (
                                                                  (refl, tt),
                                                                  (
                                                                    (refl, tt),
                                                                    (
                                                                      (refl, (refl, tt)),
                                                                      (
                                                                        (refl, (refl, tt)),
                                                                        (
                                                                          (refl, (refl, tt)),
                                                                          (
                                                                            (refl, (refl, (refl, (refl, (refl, tt))))),
                                                                            (
                                                                              (refl, tt),
                                                                              (
                                                                                (refl, tt),
                                                                                (
                                                                                  (refl, tt),
                                                                                  (
                                                                                    (refl, tt),
                                                                                    (
                                                                                      (refl, tt),
                                                                                      (
                                                                                        (refl, (refl, (refl, (refl, tt)))),
                                                                                        (
                                                                                          (refl, (refl, (refl, tt))),
                                                                                          (
                                                                                            (refl, (refl, (refl, (refl, tt)))),
                                                                                            (
                                                                                              (refl, (refl, (refl, tt))),
                                                                                              (
                                                                                                (refl, tt),
                                                                                                (
                                                                                                  (refl, (refl, (refl, (refl, (refl, (refl, tt)))))),
                                                                                                  tt,
                                                                                                ),
                                                                                              ),
                                                                                            ),
                                                                                          ),
                                                                                        ),
                                                                                      ),
                                                                                    ),
                                                                                  ),
                                                                                ),
                                                                              ),
                                                                            ),
                                                                          ),
                                                                        ),
                                                                      ),
                                                                    ),
                                                                  ),
                                                                ),
                                                              ),
                                                            ),
                                                          ),
                                                        ),
                                                      ),
                                                    ),
                                                  ),
                                                ),
                                              ),
                                            ),
                                          ),
                                        ),
                                      ),
                                    ),
                                  ),
                                ),
                              ),
                            ),
                          ),
                        ),
                      ),
                    ),
                  ),
                ),
              ),
            ),
          ),
        ),
      ),
    ),
  ),
)

by_surprise : AllHold surprises
by_surprise = ((refl, tt), ((refl, tt), ((refl, tt), ((refl, tt), ((refl, tt), ((refl, tt), ((refl, tt), ((refl, tt), ((refl, tt), ((refl, tt), ((refl, tt), ((refl, tt), ((refl, tt), ((refl, (refl, tt)), ((refl, (refl, tt)), ((refl, (refl, tt)), ((refl, (refl, tt)), ((refl, tt), ((refl, tt), ((refl, tt), ((refl, tt), ((refl, tt), ((refl, tt), ((refl, tt), ((refl, tt), ((refl, tt), tt))))))))))))))))))))))))))

pub replayed : Replayed
replayed = (by_case, by_surprise)

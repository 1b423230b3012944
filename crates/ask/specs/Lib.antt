-- What the contracts of a question say: its answer in the paper's words, its judgement and its chain.
pub mod Told
pub mod QuestionJudged
pub mod Chain

mod ByteAnswers

-- The limits of message queues and semaphores that POSIX.1-2017 leaves to the system, and that of short lists of words.
use Rattle.std.specs.Prelude.{ℕ}

-- priorities are below this (MQ_PRIO_MAX, limits.h)
abbrev pub mq_prio_max : ℕ
mq_prio_max = 32768

-- how many messages a queue can be made to hold (mq_maxmsg, mqueue.h), at most
abbrev pub mq_maxmsg_max : ℕ
mq_maxmsg_max = 1024

-- how many messages a queue holds where no attributes are given
abbrev pub mq_maxmsg_default : ℕ
mq_maxmsg_default = 10

-- how many words a message can be allowed to have (mq_msgsize, mqueue.h), at most
abbrev pub mq_msgsize_max : ℕ
mq_msgsize_max = 256

-- how many words a message can have where no attributes are given
abbrev pub mq_msgsize_default : ℕ
mq_msgsize_default = 16

-- the greatest value of a semaphore (SEM_VALUE_MAX, limits.h)
abbrev pub sem_value_max : ℕ
sem_value_max = 32767

-- the greatest number of words that take no memory of their own
abbrev pub few_words : ℕ
few_words = 8
